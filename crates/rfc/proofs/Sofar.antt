-- A value written part by part, in parts of any size: what stands in the room after each part.
-- Assumes nothing.
use mathlib.Core.Path.{◌≡◌, refl, sym, ap, ◌∙◌, subst}
use Prim.Native.Nat.{ℕ, ◌+◌, ◌-◌, ◌*◌, ◌≤◌, ◌<◌, min}
use native.Mathlib.Omega.{arith}
use mathlib.Core.List.{List, [], ◌∷◌, ◌++◌}
use lib.ListN.{length, take, drop, set, length-drop, drop_of_length-le}
use lib.Seq.{length-take-le, drop-drop, take_at, drop_at}
use Rattle.facts.specs.Over.{over}
use Rattle.facts.proofs.Over.{over_over}
use Rattle.facts.proofs.Laid.{Laid, laid_none, laid_more, laid_all}
use Rattle.facts.proofs.Cells.{stores_over}
use Rattle.rfc.specs.Writing.{encode}
use Rattle.rfc.proofs.Writing.{encode_none, encode_next, encode_takes}

-- two stores and the bytes behind them are the write of a part
pub part_over : (room bytes : List ℕ) (at code n : ℕ) → at + (2 + length bytes) ≤ length room
    → over (set (set room at code) (at + 1) n) (at + 2) bytes ≡ over room at (code ∷ n ∷ bytes)
part_over room bytes at code n h =
    ap (λ (x : List ℕ). over x (at + 2) bytes) (stores_over room at (code ∷ n ∷ []) (omega arith))
    ∙ over_over room at (code ∷ n ∷ []) bytes (omega arith)

-- the part of a value with its n bytes from one on
abbrev pub part : ℕ → List ℕ → ℕ → ℕ → List ℕ
part code v from n = code ∷ n ∷ take n (drop from v)

-- of a value in parts of so many bytes, `done` bytes are written, and they hold the first `from` bytes of the value; what is left of it is
-- to be written, with a head where there is some
pub record Sofar (size : ℕ) (room₀ room v : List ℕ) (place code done from : ℕ) : Type 0 where
  pub some : 0 < size
  pub laid : Laid room₀ room (encode size code v) place done
  pub within : from ≤ length v
  pub left : drop done (encode size code v) ≡ encode size code (drop from v)
  pub enough : done + (length v - from + 2 * min 1 (length v - from)) ≤ length (encode size code v)

module _ {size : ℕ} (some : 0 < size) {room₀ room v : List ℕ} {place code done from : ℕ} where
  sofar : Laid room₀ room (encode size code v) place done → from ≤ length v
      → drop done (encode size code v) ≡ encode size code (drop from v) → Sofar size room₀ room v place code done from
  sofar l h e =
      let bytes = encode_takes size some code (drop from v) in
      let there = length-drop done (encode size code v) in
      record { some = some; laid = l; within = h; left = e; enough = omega (arith, l.within, length-drop from v, ap length e) }

pub sofar_none : {size : ℕ} → 0 < size → {room v : List ℕ} {place code : ℕ} → place + length (encode size code v) ≤ length room
    → Sofar size room room v place code 0 0
sofar_none some h = sofar some (laid_none _ _ _ h) (omega arith) refl

module _ {size : ℕ} {room₀ room v : List ℕ} {place code done from : ℕ} (s : Sofar size room₀ room v place code done from) where
  -- one part more, of n bytes
  pub sofar_more : {n : ℕ} → from < length v → n ≡ min size (length v - from)
      → {room' : List ℕ} → room' ≡ over room (place + done) (part code v from n)
      → Sofar size room₀ room' v place code (done + 2 + n) (from + n)
  sofar_more {n} h e {room'} w =
      let all : List ℕ = encode size code v in
      let p : List ℕ = part code v from n in
      let l : length (drop from v) ≡ length v - from = length-drop from v in
      let two : length p ≡ 2 + n = let t = length-take-le n (drop from v) (omega (arith, s.some)) in omega arith in
      let a : done + (2 + n) ≡ done + 2 + n = omega arith in
      let split : drop done all ≡ p ++ encode size code (drop (from + n) v) =
      s.left
      ∙ encode_next size s.some code (drop from v) n (omega arith) (e ∙ ap (min size) (sym l))
      ∙ ap (λ (r : List ℕ). p ++ encode size code r) (drop-drop n from v) in
      sofar s.some
      (subst (λ (m : ℕ). Laid room₀ room' all place m) a
      (laid_more s.laid (2 + n) (omega (arith, s))
      (w ∙ ap (over room (place + done)) (sym (ap (take (2 + n)) split ∙ take_at p _ (2 + n) two)))))
      (omega arith)
      (ap (λ (m : ℕ). drop m all) (sym a)
      ∙ sym (drop-drop (2 + n) done all)
      ∙ ap (drop (2 + n)) split
      ∙ drop_at p _ (2 + n) two)

  -- at the end
  pub sofar_all : length v ≤ from → room ≡ over room₀ place (encode size code v)
  sofar_all h =
      let all : List ℕ = encode size code v in
      let z : drop done all ≡ [] = s.left ∙ ap (encode size code) (drop_of_length-le v h) ∙ encode_none size s.some code in
      laid_all s.laid (omega (arith, length-drop done all, ap length z))
