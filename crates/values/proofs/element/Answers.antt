-- `element` meets its contract: a refused reading stands, and an element is there below the count.
-- Assumes nothing.
use mathlib.Core.Path.{ap, ◌∙◌}
use native.Mathlib.Omega.{arith}
use Rattle.rfc.specs.Numbers.{given}
use Rattle.rfc.specs.Values as rfc
use Rattle.std.proofs.lemmas.Result.{err_from_is_err_and}
use Rattle.values.proofs.Entries.{no_reading, no-element, an_entry, an_element}
use Rattle.values.proofs.element.Goals as goal

pub returns-in_err-held : goal.returns-in_err-held
returns-in_err-held c =
    let e = err_from_is_err_and c.from_residual.result c.from_residual.ensures.1 in rw (e.1, e.2) (no_reading _ _ _ c.in_err-held.ensures)

pub returns-then-index-count : goal.returns-then-index-count
returns-then-index-count c = no-element _ _ _ c.in_ok-held.was c.read.ensures (omega arith)

pub entry-requires : goal.entry-requires
entry-requires c = an_entry _ _ _ c.in_ok-held.was c.read.ensures _ c.kind_of.ensures (omega arith)

pub returns : goal.returns
returns c = ap (λ (e : rfc.Element). given e) c.entry.ensures
    ∙ an_element _ _ _ c.in_ok-held.was c.read.ensures _ c.kind_of.ensures (omega arith)
