-- The parts of one code, counted field after field.
-- Assumes nothing.
use Prim.Native.Nat.{ℕ, ◌+◌, ◌≤◌}
use mathlib.Core.Path.{◌≡◌, refl, sym, ap, ◌∙◌}
use native.Mathlib.Omega.{arith}
use mathlib.Core.Bool.{cond}
use mathlib.Core.List.{List, [], ◌∷◌, ◌++◌}
use lib.ListN.{length, drop, length-drop}
use lib.Dec.{eqb}
use Rattle.std.specs.Prelude.{Result, Ok}
use native.Mathlib.Decide.{ℕ_discrete}
use borrow.Author.Tests.{eq-eqb, ne_eqb}
use Rattle.std.specs.Result.{IsOk}
use Rattle.refusal.specs.declared.Refusal.{Refusal}
use Rattle.rfc.specs.Portions.{Portion, Portions, whole, portions, of_code, joined_value}
use Rattle.rfc.proofs.Sizes.{fits_field, of_code_fits, first_length, joined_none}
use Rattle.rfc.proofs.OfCode.{of_none, of_first, of_other, last_or}
use Rattle.aggregate.specs.Tallies.{tally, none, tallied, counted}
use Rattle.aggregate.specs.declared.tally.Tally.{Tally}

-- what was counted, by the parts of the code
tallied_is : (code : ℕ) (t : Tally) (ps : List Portion)
    → tallied code t ps
    ≡ tally (t.parts + length (of_code code ps)) (t.len + length (joined_value (of_code code ps))) (last_or t.place (of_code code ps))
unfolding tallied
tallied_is code t [] =
    let a : t.parts ≡ t.parts + 0 = omega arith in
    let b : t.len ≡ t.len + length (joined_value []) = omega (arith, ap length joined_none) in
    rw (of_none code) (λ i. tally (a i) (b i) t.place)
tallied_is code t (p ∷ ps) = go (ℕ_discrete p.code code) (λ (s : Tally). tallied_is code s ps)
  where
    go : Dec (p.code ≡ code)
        → ((s : Tally) → tallied code s ps
        ≡ tally (s.parts + length (of_code code ps)) (s.len + length (joined_value (of_code code ps))) (last_or s.place (of_code code ps)))
        → (let qs : List Portion = of_code code (p ∷ ps) in
        tallied code (cond (eqb p.code code) (tally (t.parts + 1) (t.len + length p.value) p.place) t) ps
        ≡ tally (t.parts + length qs) (t.len + length (joined_value qs)) (last_or t.place qs))
    go (yes e) r =
        let qs : List Portion = of_code code ps in
        let a : t.parts + 1 + length qs ≡ t.parts + length (p ∷ qs) = omega arith in
        let b : t.len + length p.value + length (joined_value qs) ≡ t.len + length (joined_value (p ∷ qs)) = omega (arith, first_length p qs) in
        rw (eq-eqb p.code code e, of_first code p ps e)
        (r (tally (t.parts + 1) (t.len + length p.value) p.place) ∙ (λ i. tally (a i) (b i) (last_or p.place qs)))
    go (no e) r = rw (ne_eqb p.code code e, of_other code p ps e) (r t)

-- so many parts with so many bytes, the last before a place, are these
pub record Amounts (t : Tally) (ps : List Portion) : Type 0 where
  pub parts : t.parts ≡ length ps
  pub len : t.len ≡ length (joined_value ps)
  pub place : t.place ≡ last_or 0 ps

pub amounts : (code : ℕ) (ps : List Portion) {t : Tally} → t ≡ tallied code none ps → Amounts t (of_code code ps)
amounts code ps e =
    let is = e ∙ tallied_is code none ps in
    record {
      parts = omega (arith, ap (λ (u : Tally). u.parts) is);
      len = omega (arith, ap (λ (u : Tally). u.len) is);
      place = ap (λ (u : Tally). u.place) is;
    }

-- parts behind others are counted behind them
tallied_both : (code : ℕ) (t : Tally) (ps qs : List Portion) → tallied code t (ps ++ qs) ≡ tallied code (tallied code t ps) qs
unfolding tallied
tallied_both code t [] qs = refl
tallied_both code t (p ∷ ps) qs = tallied_both code (cond (eqb p.code code) (tally (t.parts + 1) (t.len + length p.value) p.place) t) ps qs

-- no more is counted of a field than it has bytes
tallied_fits : (code : ℕ) (t : Tally) (at : ℕ) (field : List ℕ) (ps : List Portion) → portions at field ≡ whole ps
    → (tallied code t ps).parts + (tallied code t ps).len ≤ t.parts + t.len + length field
tallied_fits code t at field ps e =
    let r = of_code_fits code ps in
    rw (tallied_is code t ps) (omega (arith, fits_field at field ps e, r.0, r.1))

-- so many bytes and no more were counted, of these parts
pub record Counted (code : ℕ) (ps : List Portion) (most : ℕ) (t : Tally) : Type 0 where
  pub is : t ≡ tallied code none ps
  pub few : t.parts + t.len ≤ most

pub counted_none : (code : ℕ) {t : Tally} → t ≡ none → Counted code [] 0 t
unfolding tallied
counted_none code e = record { is = e; few = omega (arith, ap (λ (t : Tally). t.parts + t.len) e) }

-- a field that is whole is counted
pub is_counted : (code : ℕ) (t : Tally) {g : Portions} {qs : List Portion} {r : Result Tally Refusal} → r ≡ counted code t g → g ≡ whole qs → IsOk r
is_counted code t e w = rw (e, w) refl

pub counted_more : {code : ℕ} {ps qs : List Portion} {most : ℕ} {t₀ t : Tally} (start : ℕ) (bytes : List ℕ) → Counted code ps most t₀
    → portions start (drop start bytes) ≡ whole qs → Ok t ≡ counted code t₀ (portions start (drop start bytes))
    → Counted code (ps ++ qs) (most + length bytes) t
counted_more {code} {ps} {qs} {most} {t₀} {t} start bytes s w e =
    let same : Ok t ≡ Ok (tallied code t₀ qs) = e ∙ ap (counted code t₀) w in
    let now : t ≡ tallied code t₀ qs = cc in
    record {
      is = now ∙ ap (λ (u : Tally). tallied code u qs) s.is ∙ sym (tallied_both code none ps qs);
      few =
          omega (
            arith,
            s.few,
            ap (λ (u : Tally). u.parts + u.len) now,
            tallied_fits code t₀ start (drop start bytes) qs w,
            length-drop start bytes,
          );
    }
