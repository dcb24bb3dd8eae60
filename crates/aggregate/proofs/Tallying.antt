-- What the first part of a field adds to a tally, and what a tally tells of a field.
-- Assumes nothing.
use Prim.Native.Nat.{ℕ, ◌+◌}
use mathlib.Core.Path.{◌≡◌, refl, sym, ap, ◌∙◌}
use mathlib.Core.Bool.{true, false, cond}
use mathlib.Core.List.{List}
use lib.ListN.{length, drop}
use lib.Dec.{eqb}
use Rattle.std.specs.Prelude.{Ok, Err}
use borrow.Author.Tests.{eq-eqb, ne_eqb}
use Rattle.rfc.specs.Portions.{portion, Portions, cut_field, whole, ahead, portions, is_cut, parts_in}
use Rattle.rfc.proofs.Portions.{ahead_cut, ahead_whole, cut-field, cut_whole, parts_whole}
use Rattle.refusal.specs.declared.Refusal.{Refusal}
use Rattle.refusal.specs.declared.Refusal.TheVariants.{FieldCut}
use Rattle.portions.proofs.Left.{FirstPart}
use Rattle.aggregate.specs.Tallies.{tally, tallied, counted}
use Rattle.aggregate.specs.declared.tally.Tally.{Tally}

-- the first part is counted, where it is of the code, and else passed
module _ {bytes : List ℕ} {at c n place : ℕ} (code : ℕ) (t : Tally) (f : FirstPart bytes at c n place) where
  abbrev Turns : Tally → Type 0
  Turns u = counted code t (portions at (drop at bytes)) ≡ counted code u (portions place (drop place bytes))

  by_code : Turns (cond (eqb c code) (tally (t.parts + 1) (t.len + n) place) t)
  unfolding tallied
  by_code = ap (counted code t) f.is ∙ rw (← f.long) (behind (portions place (drop place bytes)))
    where
      behind : (g : Portions) → counted code t (ahead (portion c f.value place) g)
          ≡ counted code (cond (eqb c code) (tally (t.parts + 1) (t.len + length f.value) place) t) g
      behind cut_field = ap (counted code t) (ahead_cut _)
      behind (whole ps) = ap (counted code t) (ahead_whole _ ps)

  pub counts : c ≡ code → Turns (tally (t.parts + 1) (t.len + n) place)
  counts e = rw (eq-eqb c code e) at by_code

  pub skips : (c ≡ code → ⊥) → Turns t
  skips e = rw (ne_eqb c code e) at by_code

-- what is counted tells whether the field was cut
pub err_cut : (code : ℕ) (t : Tally) (f : Portions) {e : Refusal} → counted code t f ≡ Err e → (is_cut f ≡ true) × (e ≡ FieldCut)
err_cut code t cut_field h = (cut-field, cc)
err_cut code t (whole ps) h = cc

pub ok_whole : (code : ℕ) (t : Tally) (f : Portions) {u : Tally} → counted code t f ≡ Ok u → (is_cut f ≡ false) × (u ≡ tallied code t (parts_in f))
ok_whole code t cut_field h = cc
ok_whole code t (whole ps) {u} h = let is : tallied code t ps ≡ u = cc in (cut_whole ps, sym is ∙ ap (tallied code t) (sym (parts_whole refl)))
