-- A writer's answers, for any write: a refusal, a success, and what its contract tells a caller.
-- Assumes nothing.
use mathlib.Core.Path.{◌≡◌, refl, sym, ap, ◌∙◌, subst}
use Prim.Native.Nat.{ℕ, ◌+◌, ◌≤◌, ◌<◌}
use mathlib.Core.List.{List, ◌++◌}
use lib.ListN.{length, take, drop, length-drop}
use lib.Seq.{length-take-le}
use native.Mathlib.Omega.{arith}
use Rattle.facts.specs.Over.{over}
use Rattle.facts.proofs.Over.{over_part, over_all}
use Rattle.std.specs.Prelude.{Result, Ok, Err}
use Rattle.rfc.specs.Numbers.{given, refused}
use Rattle.rfc.specs.Writing.{Write, answer_to, room_after, write_slice}
use Rattle.rfc.proofs.Writing.{Alike, refused_left, slice_4, slice_8, slice_given, slice_left}
use Rattle.refusal.specs.declared.Refusal.{Refusal}
use Rattle.refusal.specs.declared.Refusal.TheVariants.{PastEnd, NoRoom}
use Rattle.refusal.specs.Told.{says}
use Rattle.refusal.proofs.Told.{told_one}
use Rattle.encoder.specs.Written.{Wrote}

module _ (w : Write) (room : List ℕ) (place : ℕ) where
  -- a refusal changes nothing
  pub refuses : (e : Refusal) (k : ℕ) → says {A = ℕ} e ≡ refused k → answer_to w room place ≡ refused k → Wrote w room room place (Err e)
  refuses e k s a = record { tells = s ∙ sym a; left = sym (refused_left w room place k a) }

  -- a success leaves what the definition says
  pub writes : (room' : List ℕ) (to : ℕ) → answer_to w room place ≡ given to → room_after w room place ≡ room'
      → Wrote w room room' place (Ok to)
  writes room' to e l = record { tells = sym e; left = sym l }

-- any two answers, and any two rooms left, are equal
pub wrote_one : {w : Write} {room r₁ r₂ : List ℕ} {place : ℕ} {a b : Result ℕ Refusal}
    → Wrote w room r₁ place a → Wrote w room r₂ place b → (a ≡ b) × (r₁ ≡ r₂)
wrote_one {a = a} {b = b} p q = (told_one a b (p.tells ∙ sym q.tells), p.left ∙ sym q.left)

-- a write that answers as another does, and leaves what it leaves
pub same_wrote : {w w' : Write} {room room' : List ℕ} {place : ℕ} {r : Result ℕ Refusal} → Alike w w' room place
    → Wrote w room room' place r → Wrote w' room room' place r
same_wrote same o = record { tells = o.tells ∙ same.0; left = o.left ∙ same.1 }

-- the same bytes by another name
pub same_bytes : {bytes others room room' : List ℕ} {place : ℕ} {r : Result ℕ Refusal} → bytes ≡ others
    → Wrote (write_slice bytes room place) room room' place r → Wrote (write_slice others room place) room room' place r
same_bytes {room = room} {room' = room'} {place = place} {r = r} e w =
    subst (λ (l : List ℕ). Wrote (write_slice l room place) room room' place r) e w

-- bytes as they stand: the place is none of the room, they do not fit, or they are put
module _ (bytes room : List ℕ) (place : ℕ) where
  pub past_end : length room < place → Wrote (write_slice bytes room place) room room place (Err PastEnd)
  past_end h = refuses _ room place PastEnd 4 refl (slice_4 bytes room place h)

  pub no_room : place ≤ length room → length room < place + length bytes → Wrote (write_slice bytes room place) room room place (Err NoRoom)
  no_room g h = refuses _ room place NoRoom 8 refl (slice_8 bytes room place g h)

  pub puts : place + length bytes ≤ length room → {room' : List ℕ} (to : ℕ) → to ≡ place + length bytes → room' ≡ over room place bytes
      → Wrote (write_slice bytes room place) room room' place (Ok to)
  puts h {room'} to e p =
      writes _ room place room' to
      (slice_given bytes room place (omega arith) h ∙ ap given (sym e)) (slice_left bytes room place (omega arith) h ∙ sym p)

-- bytes that fit are put over what stood there
pub put_over : (bytes room room' : List ℕ) (place : ℕ) (r : Result ℕ Refusal) → place + length bytes ≤ length room
    → Wrote (write_slice bytes room place) room room' place r → room' ≡ over room place bytes
put_over bytes room room' place r h w = w.left ∙ slice_left bytes room place (omega arith) h

-- and so are bytes that are written into just their part of a room
pub put_part : (bytes room : List ℕ) (at n : ℕ) {part : List ℕ} {r : Result ℕ Refusal} → length bytes ≡ n → at + n ≤ length room
    → Wrote (write_slice bytes (take n (drop at room)) 0) (take n (drop at room)) part 0 r
    → take at room ++ (part ++ drop n (drop at room)) ≡ over room at bytes
put_part bytes room at n {part} e h w =
    let l : length (take n (drop at room)) ≡ n = length-take-le n (drop at room) (omega (arith, length-drop at room)) in
    let all : part ≡ bytes = put_over bytes _ part 0 _ (omega arith) w ∙ over_all _ bytes (omega arith) in
    ap (λ (p : List ℕ). take at room ++ (p ++ drop n (drop at room))) all ∙ over_part room at n bytes e
