-- What stands at an index, in the order of first appearance (`entry` of `specs/Aggregate.antt`): an index with an option is one of a code,
-- whose value is made of the message's bytes; and the values of all codes together are no longer than those of all parts.
-- Assumes nothing.
use mathlib.Core.Path.{◌≡◌, refl, sym, ap, subst, ◌∙◌}
use Prim.Native.Nat.{ℕ, suc, ◌+◌, ◌-◌, ◌≤◌, ◌<◌}
use native.Mathlib.Omega.{arith}
use native.Mathlib.Decide.{dec_lt}
use mathlib.Core.List.{List, [], ◌∷◌}
use mathlib.Core.Bool.{Bool, true, false, cond}
use lib.ListN.{length, drop, get_or, get_or-eq_default}
use lib.Dec.{eqb}
use borrow.Author.Tests.{eqb-true}
use Rattle.facts.proofs.Distinct.{At, here, later, without_fewer, Once}
use Rattle.rfc.specs.Numbers.{given, no_code}
use Rattle.rfc.specs.Walk.{option}
use Rattle.rfc.specs.Lists.{Bytes}
use Rattle.rfc.specs.Portions.{Portion, of_code, joined_value}
use Rattle.rfc.specs.Aggregate.{fields_of, aggregate, codes_of, option_of, aggregate_checks, entry}
use Rattle.rfc.proofs.Numbers.{passes, given_no}
use Rattle.rfc.proofs.Bytes.{bytes_drop, bytes_take, bytes_joined}
use Rattle.rfc.proofs.Sizes.{joined_none, joined_first, first_length}
use Rattle.rfc.proofs.Standing.{AllInPlace, code_in_place, all_in_place}
use Rattle.rfc.proofs.OfCode.{code_given, value_given}

-- there are no more codes than parts
pub codes_fewer : (ps : List Portion) → length (codes_of ps) ≤ length ps
unfolding codes_of
codes_fewer [] = omega arith
codes_fewer (p ∷ ps) = omega (arith, without_fewer p.code (codes_of ps), codes_fewer ps)

-- an option at an index is that of the code which stands there
pub record Indexed (message : List ℕ) (index code : ℕ) (v : List ℕ) : Type 0 where
  pub inside : index < length (codes_of (aggregate (fields_of message)))
  pub stands : get_or (codes_of (aggregate (fields_of message))) index 0 ≡ code
  pub value : joined_value (of_code code (aggregate (fields_of message))) ≡ v

pub indexed : (message : List ℕ) (index room code : ℕ) (v : List ℕ) (n at : ℕ) → entry message index room ≡ given (option code v n at)
    → Indexed message index code v
unfolding entry no_code
indexed message index room code v n at e =
    let is = code_given message (get_or codes index 0) room code v n at answered in
    record {
      inside = below (dec_lt index (length codes)) is.1;
      stands = is.0;
      value =
          ap (λ (c : ℕ). joined_value (of_code c (aggregate (fields_of message)))) (sym is.0)
          ∙ value_given message (get_or codes index 0) room code v n at answered;
    }
  where
    codes : List ℕ
    codes = codes_of (aggregate (fields_of message))

    answered : option_of (fields_of message) (get_or codes index 0) room ≡ given (option code v n at)
    answered = (passes (aggregate_checks message) _ (given (option code v n at)) (given_no _) e).1

    below : Dec (index < length codes) → no_code (get_or codes index 0) ≡ false → index < length codes
    below (yes h) f = h
    below (no h) f =
        let z : true ≡ false = sym (ap no_code (get_or-eq_default codes 0 (omega arith))) ∙ f in
        absurd (let w : ◌≡◌ {A = ℕ} 0 1 = cc in omega arith)

-- values that stand in bytes are bytes
values_bytes : (message : List ℕ) → Bytes message → (ps : List Portion) → AllInPlace message ps → Bytes (joined_value ps)
values_bytes message b [] h = subst Bytes (sym joined_none) tt
values_bytes message b (p ∷ ps) h =
    let len : ℕ = length p.value in
    let value = subst Bytes h.0.value (bytes_take len (drop (p.place - len) message) (bytes_drop (p.place - len) message b)) in
    subst Bytes (sym (joined_first p ps)) (bytes_joined p.value (joined_value ps) value (values_bytes message b ps h.1))

pub value_bytes : (message : List ℕ) (code : ℕ) → Bytes message → Bytes (joined_value (of_code code (aggregate (fields_of message))))
value_bytes message code b = values_bytes message b (of_code code (aggregate (fields_of message))) (code_in_place message code _ (all_in_place message))

-- how many bytes the values of some codes have
abbrev pub bytes_in : List Portion → List ℕ → ℕ
bytes_in ps [] = 0
bytes_in ps (c ∷ cs) = length (joined_value (of_code c ps)) + bytes_in ps cs

-- a part more: it is one of a code, or of none of them
module _ (p : Portion) (ps : List Portion) where
  other_bytes : (cs : List ℕ) → ((i : ℕ) → At p.code i cs → ⊥) → bytes_in (p ∷ ps) cs ≡ bytes_in ps cs
  unfolding of_code
  other_bytes [] o = refl
  other_bytes (c ∷ cs) o = go (eqb p.code c) refl (other_bytes cs (λ i a. o (suc i) (later p.code c i cs a)))
    where
      go : (t : Bool) → eqb p.code c ≡ t → bytes_in (p ∷ ps) cs ≡ bytes_in ps cs
          → length (joined_value (cond t (p ∷ of_code c ps) (of_code c ps))) + bytes_in (p ∷ ps) cs
          ≡ length (joined_value (of_code c ps)) + bytes_in ps cs
      go true e r = absurd (o 0 (subst (λ (k : ℕ). At k 0 (c ∷ cs)) (sym (eqb-true p.code c e)) (here c cs)))
      go false e r = omega (arith, r)

  part_bytes : (cs : List ℕ) → Once cs → bytes_in (p ∷ ps) cs ≤ length p.value + bytes_in ps cs
  unfolding of_code
  part_bytes [] o = omega arith
  part_bytes (c ∷ cs) o = go (eqb p.code c) refl (part_bytes cs o.1)
    where
      go : (t : Bool) → eqb p.code c ≡ t → bytes_in (p ∷ ps) cs ≤ length p.value + bytes_in ps cs
          → length (joined_value (cond t (p ∷ of_code c ps) (of_code c ps))) + bytes_in (p ∷ ps) cs
          ≤ length p.value + (length (joined_value (of_code c ps)) + bytes_in ps cs)
      go true e r =
          let others = other_bytes cs (λ i a. o.0 i (subst (λ (k : ℕ). At k i cs) (eqb-true p.code c e) a)) in
          omega (arith, first_length p (of_code c ps), others)
      go false e r = omega (arith, r)

pub bytes_fit : (ps : List Portion) (cs : List ℕ) → Once cs → bytes_in ps cs ≤ length (joined_value ps)
unfolding of_code
bytes_fit [] cs o = none cs
  where
    none : (cs : List ℕ) → bytes_in [] cs ≤ length (joined_value [])
    none [] = omega arith
    none (c ∷ cs) = omega (arith, ap length joined_none, none cs)
bytes_fit (p ∷ ps) cs o = omega (arith, part_bytes p ps cs o, first_length p ps, bytes_fit ps cs o)
