-- The walk over the bytes of one written value: it is one option, whatever the size of its parts.
-- Assumes nothing.
use mathlib.Core.Path.{◌≡◌, refl, sym, ap, ◌∙◌}
use Prim.Native.Nat.{ℕ, ◌+◌, ◌*◌, ◌≤◌, ◌<◌}
use native.Mathlib.Omega.{arith}
use mathlib.Core.List.{List, [], ◌∷◌, ◌++◌, append_assoc, flatten}
use lib.ListN.{length, take, drop, length-append, take-append-drop}
use lib.Seq.{take-append_seam, drop-append_seam}
use Rattle.facts.specs.Pieces.{pieces}
use Rattle.facts.proofs.Pieces.{pieces_more, flatten_pieces}
use Rattle.facts.specs.Over.{over}
use Rattle.facts.proofs.Over.{length_over, from_over}
use Rattle.rfc.specs.Numbers.{given, most_bytes, pad_code, end_code}
use Rattle.rfc.specs.Walk.{run, extend, further, walk, option, step}
use Rattle.rfc.specs.Typed.{Apart}
use Rattle.rfc.specs.Writing.{parts_of, encode}
use Rattle.rfc.proofs.Walk.{further_none, further_other, further_more, walk_code, behind_whole, joined_run, step_walks, answered}
use Rattle.rfc.proofs.Writing.{length_parts}

-- parts of `code`, and behind them something that is no further part of it
module _ (code : ℕ) (tail : List ℕ) (other : further code tail ≡ run 0 []) where
  -- the first value, and what is behind it
  front : (p x : List ℕ) → take (length p) (p ++ x ++ tail) ≡ p
  front p x = ap (take (length p)) (append_assoc p x tail) ∙ take-append_seam p (x ++ tail)

  back : (p x : List ℕ) → drop (length p) (p ++ x ++ tail) ≡ x ++ tail
  back p x = ap (drop (length p)) (append_assoc p x tail) ∙ drop-append_seam p (x ++ tail)

  fits : (p x : List ℕ) → length p ≤ length (p ++ x ++ tail)
  fits p x = omega (arith, length-append (p ++ x) tail, length-append p x)

  -- every part is read, and no more
  all_further : (ps : List (List ℕ)) → further code (parts_of code ps ++ tail) ≡ run (length ps) (flatten ps)
  unfolding parts_of flatten extend
  all_further [] = other
  all_further (p ∷ ps) =
      rw (further_more code code (length p) (p ++ parts_of code ps ++ tail) refl (fits p (parts_of code ps)))
      (rw (front p (parts_of code ps), back p (parts_of code ps), all_further ps))

  module _ (no_pad : code ≡ pad_code → ⊥) (no_end : code ≡ end_code → ⊥) where
    pub walk_parts : (at : ℕ) (p : List ℕ) (ps : List (List ℕ))
        → walk at (parts_of code (p ∷ ps) ++ tail) ≡ option code (p ++ flatten ps) (length ps + 1) (at + length (parts_of code (p ∷ ps)))
    unfolding parts_of
    walk_parts at p ps =
        let more : List ℕ = p ++ parts_of code ps ++ tail in
        let behind-first : ℕ = at + 1 + 1 + length p in
        let e : behind-first + (2 * length ps + length (flatten ps)) ≡ at + length (parts_of code (p ∷ ps)) =
        omega (arith, length_parts code ps, length-append p (parts_of code ps)) in
        walk_code at code (length p ∷ more) no_pad no_end
        ∙ behind_whole code (at + 1) (length p) more (fits p (parts_of code ps))
        ∙ rw (front p (parts_of code ps), back p (parts_of code ps), ← e)
        (joined_run code p behind-first _ (length ps) (flatten ps) (all_further ps))

    -- a written value is walked as one option
    pub walk_value : (size : ℕ) → 0 < size → (at : ℕ) (v : List ℕ) → 1 ≤ length v
        → walk at (encode size code v ++ tail)
        ≡ option code v (length (pieces size (drop size v)) + 1) (at + length (encode size code v))
    unfolding encode
    walk_value size some at v h =
        let rest : List (List ℕ) = pieces size (drop size v) in
        let e : pieces size v ≡ take size v ∷ rest = pieces_more size some v h in
        let whole : take size v ++ flatten rest ≡ v = rw (flatten_pieces size some (drop size v)) (take-append-drop size v) in
        ap (λ (ps : List (List ℕ)). walk at (parts_of code ps ++ tail)) e
        ∙ walk_parts at (take size v) rest
        ∙ (λ i. option code (whole i) (length rest + 1) (at + length (parts_of code (sym e i))))

-- behind the last part there is nothing, or something of another code
pub apart_none : (code : ℕ) (tail : List ℕ) → Apart code tail → further code tail ≡ run 0 []
apart_none code [] u = further_none code
apart_none code (b ∷ rest) n = further_other code b rest n

-- a value that stands in a room is found there, in parts of any size
pub value_found : (size code : ℕ) (v room : List ℕ) (place join : ℕ) → 0 < size → (code ≡ pad_code → ⊥) → (code ≡ end_code → ⊥)
    → length room ≤ most_bytes → place + length (encode size code v) ≤ length room → 1 ≤ length v → length v ≤ join
    → Apart code (drop (place + length (encode size code v)) room)
    → step (over room place (encode size code v)) place join
    ≡ given (option code v (length (pieces size (drop size v)) + 1) (place + length (encode size code v)))
value_found size code v room place join some no_pad no_end short fits there joins apart =
    let here : List ℕ = encode size code v in
    let tail : List ℕ = drop (place + length here) room in
    let n : ℕ = length (pieces size (drop size v)) + 1 in
    let area : List ℕ = over room place here in
    let long : length area ≡ length room = length_over room place here fits in
    rw (
      step_walks area place join (omega arith) (omega arith),
      from_over room place here fits,
      walk_value code tail (apart_none code tail apart) no_pad no_end size some place v there,
    )
    (answered join code v n (place + length here) joins)
