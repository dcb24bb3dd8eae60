-- Bytes of a value that are put one behind the other are the value in parts.
-- Assumes nothing.
use mathlib.Core.Path.{◌≡◌, refl, sym, ap, ◌∙◌}
use Prim.Native.Nat.{ℕ, suc, zero, ◌+◌, ◌-◌, ◌≤◌, ◌<◌, min}
use mathlib.Core.Bool.{Bool, true, false, cond}
use mathlib.Core.List.{List, [], ◌∷◌, ◌++◌, foldl}
use native.Mathlib.Omega.{arith}
use native.Mathlib.Nat.{not-suc-le-zero}
use lib.Dec.{eqb, leb, ltb}
use lib.ListN.{length, take, drop, set, length-append, length-set}
use lib.Seq.{take-nil, drop-nil}
use Rattle.facts.specs.Over.{over}
use Rattle.facts.proofs.Over.{over_nil, over_over, set_over}
use Rattle.facts.proofs.Cells.{stores_over}
use Rattle.rfc.specs.Writing.{encode}
use Rattle.rfc.proofs.Writing.{encode_none, encode_next}
use Rattle.laying.specs.Passes.{State, headed, onward, opened, added, put}
use Rattle.laying.specs.declared.Pass.{Pass}
use Rattle.laying.proofs.Passes.{opened_inside, opened_head, added_byte}

-- from one state to another these bytes are written
pub record Puts (d : State) (bytes : List ℕ) (d' : State) : Type 0 where
  pub to : d'.0.at ≡ d.0.at + length bytes
  pub left : d'.1 ≡ over d.1 d.0.at bytes

puts_none : (d : State) → Puts d [] d
puts_none d = record { to = omega arith; left = sym (over_nil d.1 d.0.at) }

puts_both : (d e f : State) (a b : List ℕ) → d.0.at + length a ≤ length d.1 → Puts d a e → Puts e b f → Puts d (a ++ b) f
puts_both d e f a b h p q =
    record {
      to = omega (arith, p.to, q.to, length-append a b);
      left =
          q.left
          ∙ (λ i. over (p.left i) (p.to i) b)
          ∙ over_over d.1 d.0.at a b h;
    }

-- what is still to be written for the rest of a value, where n bytes of a part are still to come
abbrev rest : Pass → ℕ → List ℕ → List ℕ
rest p n v = take n v ++ encode p.most p.code (drop n v)

rest_none : (p : Pass) (n : ℕ) → 0 < p.most → rest p n [] ≡ []
rest_none p n some =
    (λ i. take-nil n i ++ encode p.most p.code (drop-nil n i)) ∙ encode_none p.most some p.code

rest_more : (p : Pass) (n byte : ℕ) (v : List ℕ) → 0 < n → rest p n (byte ∷ v) ≡ byte ∷ rest p (n - 1) v
rest_more p zero byte v h = absurd (not-suc-le-zero h)
rest_more p (suc n) byte v h = let e : n ≡ suc n - 1 = omega arith in ap (λ (k : ℕ). byte ∷ rest p k v) e

-- all bytes of v are put
abbrev Told : List ℕ → Type 0
Told v =
    (d : State) → 0 < d.0.most → d.0.part + d.0.len ≡ length v → d.0.at + length (rest d.0 d.0.part v) ≤ length d.1
    → Puts d (rest d.0 d.0.part v) (foldl put d v)

-- one byte more, inside a part
module _ (byte : ℕ) (v : List ℕ) (told : Told v) where
  inside : (p : Pass) (room : List ℕ) → 0 < p.most → 0 < p.part → p.part + p.len ≡ length (byte ∷ v)
      → p.at + length (rest p p.part (byte ∷ v)) ≤ length room
      → Puts (p, room) (rest p p.part (byte ∷ v)) (foldl put (p, room) (byte ∷ v))
  inside p room size some sum fits =
      let more : rest p p.part (byte ∷ v) ≡ byte ∷ rest p (p.part - 1) v = rest_more p p.part byte v some in
      let d : State = (onward p, set room p.at byte) in
      let e : put (p, room) byte ≡ d =
      ap (λ (x : State). added x byte) (opened_inside p room some)
      ∙ added_byte p room byte (λ z. omega arith) (omega (arith, ap length more)) in
      let one : Puts (p, room) (byte ∷ []) d =
      record { to = refl; left = set_over room p.at byte (omega (arith, ap length more)) } in
      let all : Puts d (rest p (p.part - 1) v) (foldl put d v) =
      told d size (omega arith) (omega (arith, ap length more, length-set room p.at byte)) in
      rw (e, more) (puts_both (p, room) d (foldl put d v) (byte ∷ []) (rest p (p.part - 1) v) (omega (arith, ap length more)) one all)

  -- where a part begins its head comes first
  outside : (p : Pass) (room : List ℕ) → 0 < p.most → p.part ≡ 0 → p.part + p.len ≡ length (byte ∷ v)
      → p.at + length (rest p 0 (byte ∷ v)) ≤ length room → Puts (p, room) (rest p 0 (byte ∷ v)) (foldl put (p, room) (byte ∷ v))
  outside p room size none sum fits =
      let n : ℕ = min p.most p.len in
      let all : List ℕ = byte ∷ v in
      let same : n ≡ min p.most (length all) = omega arith in
      let next : encode p.most p.code all ≡ p.code ∷ n ∷ rest p n all =
      encode_next p.most size p.code all n (omega arith) same in
      let d : State = (headed n p, set (set room p.at p.code) (p.at + 1) n) in
      let begins : opened (p, room) ≡ d = opened_head p room n (omega arith) (omega (arith, ap length next)) refl in
      let e : put (p, room) byte ≡ put d byte =
      ap (λ (x : State). added x byte) (begins ∙ sym (opened_inside d.0 d.1 (omega arith))) in
      let head : Puts (p, room) (p.code ∷ n ∷ []) d =
      record { to = refl; left = stores_over room p.at (p.code ∷ n ∷ []) (omega (arith, ap length next)) } in
      let long : length d.1 ≡ length room =
      length-set (set room p.at p.code) (p.at + 1) n ∙ length-set room p.at p.code in
      let value : Puts d (rest p n all) (foldl put d all) =
      inside d.0 d.1 size (omega arith) (omega arith) (omega (arith, ap length next)) in
      rw (e, next) (puts_both (p, room) d (foldl put d all) (p.code ∷ n ∷ []) (rest p n all) (omega (arith, ap length next)) head value)

  by_part : Told (byte ∷ v)
  by_part d size sum fits = go d.0.part refl
    where
      go : (n : ℕ) → d.0.part ≡ n → Puts d (rest d.0 d.0.part (byte ∷ v)) (foldl put d (byte ∷ v))
      go zero e =
          let r : rest d.0 d.0.part (byte ∷ v) ≡ rest d.0 0 (byte ∷ v) = ap (λ (n : ℕ). rest d.0 n (byte ∷ v)) e in
          rw r (outside d.0 d.1 size e sum (omega (arith, ap length r)))
      go (suc n) e = inside d.0 d.1 size (omega arith) sum fits

puts_rest : (v : List ℕ) → Told v
puts_rest [] d size sum fits = rw (rest_none d.0 d.0.part size) (puts_none d)
puts_rest (byte ∷ v) d size sum fits = by_part byte v (puts_rest v) d size sum fits

-- a whole value, in parts of any size and of any code
pub puts_value : (v : List ℕ) (d : State) → 0 < d.0.most → d.0.part ≡ 0 → d.0.len ≡ length v
    → d.0.at + length (encode d.0.most d.0.code v) ≤ length d.1
    → Puts d (encode d.0.most d.0.code v) (foldl put d v)
puts_value v d size none all fits =
    let r : rest d.0 d.0.part v ≡ encode d.0.most d.0.code v = ap (λ (n : ℕ). rest d.0 n v) none in
    rw r at (puts_rest v d size (omega arith) (omega (arith, ap length r)))

-- a byte that is put does not change the refusal
either : {A : Type 0} (P : A → Type 0) (b : Bool) (x y : A) → P x → P y → P (cond b x y)
either P true x y p q = p
either P false x y p q = q

abbrev Keeps : State → State → Type 0
Keeps d e = e.0.refusal ≡ d.0.refusal

opened_keeps : (d : State) → Keeps d (opened d)
unfolding opened
opened_keeps d =
    let p = d.0 in
    let n = min p.most p.len in
    let e : State = (headed n p, set (set d.1 p.at p.code) (p.at + 1) n) in
    let full : Bool = ltb (length d.1) (p.at + 2) in
    either (Keeps d) (ltb 0 p.part) d (cond full d e) refl (either (Keeps d) full d e refl refl)

added_keeps : (d : State) (byte : ℕ) → Keeps d (added d byte)
unfolding added
added_keeps d byte =
    let p = d.0 in
    let e : State = (onward p, set d.1 p.at byte) in
    let full : Bool = leb (length d.1) p.at in
    either (Keeps d) (eqb p.part 0) d (cond full d e) refl (either (Keeps d) full d e refl refl)

pub puts_keep : (v : List ℕ) (d : State) → Keeps d (foldl put d v)
puts_keep [] d = refl
puts_keep (byte ∷ v) d = puts_keep v (put d byte) ∙ added_keeps (opened d) byte ∙ opened_keeps d
