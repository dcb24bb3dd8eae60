-- How much of a field its parts take: each has two bytes and its value, so all of them are no longer than the field.
-- Assumes nothing.
use mathlib.Core.Path.{◌≡◌, refl, sym, ap, ◌∙◌}
use Prim.Native.Nat.{ℕ, ◌+◌, ◌*◌, ◌≤◌}
use native.Mathlib.Omega.{arith}
use mathlib.Core.List.{List, [], ◌∷◌, ◌++◌, append-nil, append_assoc, flatten}
use mathlib.Core.Bool.{Bool, true, false, cond}
use lib.ListN.{length, length-append, length-drop}
use lib.Dec.{eqb}
use Rattle.rfc.specs.Portions.{Portion, Next, no_more, cut_part, next, next_portion, Portions, whole, ahead, goes_on, portions}
use Rattle.rfc.specs.Portions.{of_code, joined_value}
use Rattle.rfc.proofs.Portions.{Stands, stands, goes-on, ahead_is}

-- the first part of a whole field stands in it, and the others are those of the bytes behind it
pub record Begins (at : ℕ) (field : List ℕ) (p : Portion) (ps : List Portion) : Type 0 where
  pub rest : List ℕ
  pub first : Stands at field p rest
  pub others : portions p.place rest ≡ whole ps

pub begins : (at : ℕ) (field : List ℕ) (p : Portion) (ps : List Portion) → portions at field ≡ whole (p ∷ ps) → Begins at field p ps
unfolding goes_on
begins at field p ps e = go (next_portion at field) refl (sym (goes-on at field) ∙ e)
  where
    behind : (q : Portion) (rest : List ℕ) → next_portion at field ≡ next q rest → (x : Portions) → portions q.place rest ≡ x
        → ahead q x ≡ whole (p ∷ ps) → Begins at field p ps
    behind q rest n x o w =
        let b = ahead_is q x (p ∷ ps) w in
        let same : q ≡ p = cc b.is in
        let others : b.others ≡ ps = cc b.is in
        record {
          rest = rest;
          first = stands at field p rest (n ∙ ap (λ (r : Portion). next r rest) same);
          others = (λ i. portions (sym same i).place rest) ∙ o ∙ b.left ∙ ap whole others;
        }

    go : (x : Next) → next_portion at field ≡ x → goes_on x portions ≡ whole (p ∷ ps) → Begins at field p ps
    go no_more n w = absurd (let z : ◌≡◌ {A = ℕ} 0 1 = cc in omega arith)
    go cut_part n w = absurd (let z : ◌≡◌ {A = ℕ} 0 1 = cc in omega arith)
    go (next q rest) n w = behind q rest n (portions q.place rest) refl w

-- values joined, one by one
pub joined_none : joined_value [] ≡ []
unfolding joined_value flatten
joined_none = refl

pub joined_first : (p : Portion) (ps : List Portion) → joined_value (p ∷ ps) ≡ p.value ++ joined_value ps
unfolding joined_value flatten
joined_first p ps = refl

pub first_length : (p : Portion) (ps : List Portion) → length (joined_value (p ∷ ps)) ≡ length p.value + length (joined_value ps)
first_length p ps = ap length (joined_first p ps) ∙ length-append p.value (joined_value ps)

pub joined_one : (p : Portion) → joined_value (p ∷ []) ≡ p.value
joined_one p = joined_first p [] ∙ ap (λ (v : List ℕ). p.value ++ v) joined_none ∙ append-nil p.value

pub joined_append : (ps qs : List Portion) → joined_value (ps ++ qs) ≡ joined_value ps ++ joined_value qs
joined_append [] qs = ap (λ (v : List ℕ). v ++ joined_value qs) (sym joined_none)
joined_append (p ∷ ps) qs =
    joined_first p (ps ++ qs) ∙ ap (λ (v : List ℕ). p.value ++ v) (joined_append ps qs)
    ∙ sym (append_assoc p.value _ _) ∙ ap (λ (v : List ℕ). v ++ joined_value qs) (sym (joined_first p ps))

pub joined_both : (ps qs : List Portion) → length (joined_value (ps ++ qs)) ≡ length (joined_value ps) + length (joined_value qs)
joined_both ps qs = ap length (joined_append ps qs) ∙ length-append (joined_value ps) (joined_value qs)

pub joined_more : (ps : List Portion) (p : Portion) → length (joined_value (ps ++ p ∷ [])) ≡ length (joined_value ps) + length p.value
joined_more ps p = omega (arith, joined_both ps (p ∷ []), ap length (joined_one p))

pub fits_field : (at : ℕ) (field : List ℕ) (ps : List Portion) → portions at field ≡ whole ps
    → 2 * length ps + length (joined_value ps) ≤ length field
fits_field at field [] e = omega (arith, ap length joined_none)
fits_field at field (p ∷ ps) e =
    let b = begins at field p ps e in
    omega (
      arith,
      fits_field p.place b.rest ps b.others,
      first_length p ps,
      ap length b.first.left,
      length-drop b.first.skip field,
      b.first.room,
      b.first.within,
    )

-- the parts of one code are no more
pub of_code_fits : (code : ℕ) (ps : List Portion)
    → (length (of_code code ps) ≤ length ps) × (length (joined_value (of_code code ps)) ≤ length (joined_value ps))
unfolding of_code
of_code_fits code [] = (omega arith, omega arith)
of_code_fits code (p ∷ ps) = go (eqb p.code code) (of_code_fits code ps)
  where
    go : (t : Bool) → (length (of_code code ps) ≤ length ps) × (length (joined_value (of_code code ps)) ≤ length (joined_value ps))
        → (length (cond t (p ∷ of_code code ps) (of_code code ps)) ≤ length (p ∷ ps))
        × (length (joined_value (cond t (p ∷ of_code code ps) (of_code code ps))) ≤ length (joined_value (p ∷ ps)))
    go true h = (omega arith, omega (arith, first_length p ps, first_length p (of_code code ps)))
    go false h = (omega arith, omega (arith, first_length p ps))
