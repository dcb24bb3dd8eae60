-- The laws of `specs/Lists.antt`: a list of options is written as its bytes, and its bytes are walked as the list.
-- Assumes nothing.
use mathlib.Core.Path.{◌≡◌, refl, sym, ap, ◌∙◌}
use Prim.Native.Nat.{ℕ, suc, zero, ◌+◌, ◌≤◌, ◌<◌}
use native.Mathlib.Omega.{arith}
use native.Mathlib.Nat.{not-suc-le-zero, le_refl}
use mathlib.Core.List.{List, [], ◌∷◌, ◌++◌, append_assoc, append-nil}
use lib.ListN.{length, drop, length-append, length-drop}
use lib.Dec.{lit<}
use lib.Seq.{drop-append_seam, drop-drop}
use Rattle.facts.specs.Over.{over}
use Rattle.facts.specs.Pieces.{pieces}
use Rattle.facts.proofs.Over.{over_over, length_over}
use Rattle.rfc.specs.Numbers.{Answer, given, refused, and_then, most_bytes, most_value, most_part, pad_code, end_code}
use Rattle.rfc.specs.Walk.{Stop, Found, stop, option, end, run, further, step}
use Rattle.rfc.specs.Writing.{encode, Write, answer_to, room_after, write_bytes, close}
use Rattle.rfc.specs.Lists.{Opt, Good, Differs, Valid, encode_all, Made, does, finished, write_all, Listing, onward, list_in, listing}
use Rattle.rfc.proofs.Walk.{further_other, walk_end, stop_answered, answered, step_walks}
use Rattle.rfc.proofs.Writing.{encode_more, close_given, close_left, bytes_given, bytes_left}
use Rattle.rfc.proofs.Parts.{walk_value}

some_part : 0 < most_part
some_part = lit< tt

-- the code of a good option is neither Pad nor End
not_pad : {o : Opt} → Good o → o.code ≡ pad_code → ⊥
not_pad g z = omega (arith, g.low)

not_end : {o : Opt} → Good o → o.code ≡ end_code → ⊥
not_end g z = omega (arith, g.high)

-- Writing. A write that is given is followed by the next, in the room that it leaves
goes_on : (w : Write) (room room' : List ℕ) (place to : ℕ) (more : List ℕ → ℕ → Answer Made)
    → answer_to w room place ≡ given to → room_after w room place ≡ room' → does w room place more ≡ more room' to
unfolding does and_then
goes_on w room room' place to more a b = λ i. and_then (a i) (more (b i))

-- one that is refused ends it
ends_at : (w : Write) (room : List ℕ) (place k : ℕ) (more : List ℕ → ℕ → Answer Made)
    → answer_to w room place ≡ refused k → does w room place more ≡ refused k
unfolding does and_then
ends_at w room place k more e = ap (λ (a : Answer ℕ). and_then a (more (room_after w room place))) e

-- so a list, write by write
module _ (room : List ℕ) (place : ℕ) where
  pub all_goes_on : {room' : List ℕ} {to : ℕ} (o : Opt) (os : List Opt) → answer_to (write_bytes o.code o.value room place) room place ≡ given to
      → room_after (write_bytes o.code o.value room place) room place ≡ room' → write_all (o ∷ os) room place ≡ write_all os room' to
  unfolding write_all
  all_goes_on o os a b = goes_on _ room _ place _ (write_all os) a b

  pub all_ends_at : {k : ℕ} (o : Opt) (os : List Opt) → answer_to (write_bytes o.code o.value room place) room place ≡ refused k
      → write_all (o ∷ os) room place ≡ refused k
  unfolding write_all
  all_ends_at o os e = ends_at _ room place _ (write_all os) e

  pub all_closes : {room' : List ℕ} {to : ℕ} → answer_to (close room place) room place ≡ given to → room_after (close room place) room place ≡ room'
      → write_all [] room place ≡ finished room' to
  unfolding write_all
  all_closes a b = goes_on _ room _ place _ finished a b

  pub all_not_closed : {k : ℕ} → answer_to (close room place) room place ≡ refused k → write_all [] room place ≡ refused k
  unfolding write_all
  all_not_closed e = ends_at _ room place _ finished e

-- a list that fits is written as its bytes, at any place
pub writes_all : (os : List Opt) (room : List ℕ) (place : ℕ)
    → Valid os → length room ≤ most_bytes → place + length (encode_all os) ≤ length room
    → write_all os room place ≡ finished (over room place (encode_all os)) (place + length (encode_all os))
unfolding encode_all
writes_all [] room place v h k =
    let p : place ≤ length room = omega arith in all_closes room place (close_given room place h p k) (close_left room place h p k)
writes_all (o ∷ os) room place v h k =
    let here : List ℕ = encode most_part o.code o.value in
    let there : List ℕ = encode_all os in
    let l : length (here ++ there) ≡ length here + length there = length-append here there in
    let p : place ≤ length room = omega arith in
    let f : place + length here ≤ length room = omega arith in
    let e : place + length here + length there ≡ place + length (here ++ there) = omega arith in
    all_goes_on room place o os
    (bytes_given o.code o.value room place h p (not_pad v.0) (not_end v.0) v.0.most f)
    (bytes_left o.code o.value room place h p (not_pad v.0) (not_end v.0) v.0.most f)
    ∙ writes_all os (over room place here) (place + length here) v.2
    (omega (arith, length_over room place here f))
    (omega (arith, length_over room place here f))
    ∙ (λ i. finished (over_over room place here there f i) (e i))

-- Walking. No further part of a code follows, where the next option has another
next_other : (code : ℕ) (os : List Opt) (rest : List ℕ) → code ≤ 254 → Differs code os → Valid os
    → further code (encode_all os ++ rest) ≡ run 0 []
unfolding encode_all
next_other code [] rest h d v = further_other code end_code rest (λ z. omega arith)
next_other code (o ∷ os) rest h d v =
    ap (λ (l : List ℕ). further code (l ++ encode_all os ++ rest)) (encode_more most_part some_part o.code o.value v.0.some)
    ∙ further_other code o.code _ d

-- A listing, call by call
module _ (area : List ℕ) (room place : ℕ) where
  pub list_none : list_in zero area room place ≡ record { options = []; ending = step area place room }
  unfolding list_in
  list_none = refl

  module _ (k : ℕ) where
    pub list_stop : {s : Stop} {at : ℕ} → step area place room ≡ given (stop s at)
        → list_in (suc k) area room place ≡ record { options = []; ending = given (stop s at) }
    unfolding list_in onward
    list_stop e = ap (λ (a : Answer Found). onward a (list_in k area room)) e

    pub list_option : {code : ℕ} {v : List ℕ} {n at : ℕ} → step area place room ≡ given (option code v n at)
        → list_in (suc k) area room place
        ≡ record {
          options = record { code = code; value = v } ∷ (list_in k area room at).options;
          ending = (list_in k area room at).ending;
        }
    unfolding list_in onward
    list_option e = ap (λ (a : Answer Found). onward a (list_in k area room)) e

pub list_whole : (area : List ℕ) (room : ℕ) → listing area room ≡ list_in (length area) area room 0
unfolding listing
list_whole area room = refl

module _ (area rest : List ℕ) (room : ℕ) (short : length area ≤ most_bytes) (joins : most_value ≤ room) where
  -- the call at the list's End
  pub at-end : (place : ℕ) → place ≤ length area → drop place area ≡ encode_all [] ++ rest
      → step area place room ≡ given (stop end (place + length (encode_all [])))
  unfolding encode_all
  at-end place inside e =
      rw (step_walks area place room short inside, e, walk_end place end_code rest refl) (stop_answered room end (place + 1))

  -- the call at its first option, and where the rest of the list stands
  pub record First (o : Opt) (os : List Opt) (place : ℕ) : Type 0 where
    pub parts : ℕ
    pub to : ℕ
    pub finds : step area place room ≡ given (option o.code o.value parts to)
    pub within : to ≤ length area
    pub more : drop to area ≡ encode_all os ++ rest
    pub ends : to + length (encode_all os) ≡ place + length (encode_all (o ∷ os))

  pub at_option : (o : Opt) (os : List Opt) (place : ℕ) → Valid (o ∷ os) → place ≤ length area → drop place area ≡ encode_all (o ∷ os) ++ rest
      → First o os place
  unfolding encode_all
  at_option o os place v inside e =
      let code : ℕ = o.code in
      let value : List ℕ = o.value in
      let here : List ℕ = encode most_part code value in
      let there : List ℕ = encode_all os ++ rest in
      let n : ℕ = length (pieces most_part (drop most_part value)) + 1 in
      let to : ℕ = place + length here in
      let a : drop place area ≡ here ++ there = e ∙ append_assoc here (encode_all os) rest in
      let other = next_other code os rest v.0.high v.1 v.2 in
      record {
        parts = n;
        to = to;
        finds =
            rw (
              step_walks area place room short inside,
              a,
              walk_value code there other (not_pad v.0) (not_end v.0) most_part some_part place value v.0.some,
            )
            (answered room code value n to (omega (arith, v.0.most)));
        within = omega (arith, ap length a, length-append here there, length-drop place area);
        more = sym (drop-drop (length here) place area) ∙ ap (drop (length here)) a ∙ drop-append_seam here there;
        ends = omega (arith, length-append here (encode_all os));
      }

  list-in : (os : List Opt) (place k : ℕ) → Valid os → length os ≤ k → place ≤ length area → drop place area ≡ encode_all os ++ rest
      → list_in k area room place ≡ record { options = os; ending = given (stop end (place + length (encode_all os))) }
  list-in [] place zero v h inside e = list_none area room place ∙ (λ i. record { options = []; ending = at-end place inside e i })
  list-in [] place (suc k) v h inside e = list_stop area room place k (at-end place inside e)
  list-in (o ∷ os) place zero v h inside e = absurd (not-suc-le-zero h)
  list-in (o ∷ os) place (suc k) v h inside e =
      let first = at_option o os place v inside e in
      let r = list-in os first.to k v.2 (omega arith) first.within first.more in
      list_option area room place k first.finds
      ∙ (λ i. record { options = o ∷ (r i).options; ending = (r i).ending })
      ∙ (λ i. record { options = o ∷ os; ending = given (stop end (first.ends i)) })

-- a list has fewer options than bytes
length_list : (os : List Opt) → Valid os → length os < length (encode_all os)
unfolding encode_all
length_list [] v = omega arith
length_list (o ∷ os) v =
    let some = ap length (encode_more most_part some_part o.code o.value v.0.some) in
    omega (arith, length_list os v.2, length-append (encode most_part o.code o.value) (encode_all os))

-- the list's bytes, with any bytes behind them, are walked as the list, up to its End
pub walks_all : (os : List Opt) (rest : List ℕ) (room : ℕ) → Valid os → most_value ≤ room → length (encode_all os ++ rest) ≤ most_bytes
    → listing (encode_all os ++ rest) room ≡ record { options = os; ending = given (stop end (length (encode_all os))) }
unfolding listing
walks_all os rest room v j h =
    let z : 0 + length (encode_all os) ≡ length (encode_all os) = omega arith in
    let area : List ℕ = encode_all os ++ rest in
    list-in area rest room h j os 0 (length area) v (omega (arith, length_list os v, length-append (encode_all os) rest)) (omega arith) refl
    ∙ (λ i. record { options = os; ending = given (stop end (z i)) })

-- so two lists of which one's bytes begin the other's are one
pub one_list : (os ps : List Opt) (rest : List ℕ) → Valid os → Valid ps → length (encode_all ps) ≤ most_bytes
    → encode_all ps ≡ encode_all os ++ rest → os ≡ ps
one_list os ps rest v w h e =
    let n : encode_all ps ++ [] ≡ encode_all ps = append-nil (encode_all ps) in
    let a = walks_all os rest most_value v (le_refl _) (omega (arith, ap length e)) in
    let b = walks_all ps [] most_value w (le_refl _) (omega (arith, ap length n)) in
    ap (λ (l : Listing). l.options) (sym a ∙ ap (λ (l : List ℕ). listing l most_value) (sym e ∙ sym n) ∙ b)
