-- Between the functions of the crate: the parts of one code, counted field after field.
-- Assumes nothing.
use Rattle.std.specs.Prelude.{ℕ, ◌+◌, ◌≤◌, cond, List, [], ◌∷◌, eqb, length, Result, Ok, Err}
use Rattle.rfc.specs.Numbers.{most_bytes}
use Rattle.rfc.specs.Portions.{Portion, Portions, cut_field, whole}
use Rattle.refusal.specs.declared.Refusal.{Refusal}
use Rattle.refusal.specs.declared.Refusal.TheVariants.{FieldCut}
use Rattle.aggregate.specs.declared.tally.Tally.{Tally}

-- so many parts with so many bytes, and the place behind the last
abbrev pub tally : ℕ → ℕ → ℕ → Tally
tally parts len place = record { parts = parts; len = len; place = place }

-- nothing counted
abbrev pub none : Tally
none = tally 0 0 0

-- the parts of a code, counted behind what was counted before
unfoldable pub tallied : ℕ → Tally → List Portion → Tally
tallied code t [] = t
tallied code t (p ∷ ps) =
    tallied code (cond (eqb p.code code) (tally (t.parts + 1) (t.len + length p.value) p.place) t) ps

-- a field's; of one that is cut nothing is counted
abbrev pub counted : ℕ → Tally → Portions → Result Tally Refusal
counted code t cut_field = Err FieldCut
counted code t (whole ps) = Ok (tallied code t ps)

-- what was counted before and the bytes of a field are together no more than two messages have
abbrev pub Few : Tally → List ℕ → Type 0
Few t bytes = t.parts + t.len + length bytes ≤ most_bytes + most_bytes
