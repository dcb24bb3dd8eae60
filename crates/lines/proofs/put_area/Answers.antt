-- `put_area` meets its contract: the options' lines, or what stands in their place.
-- Assumes nothing.
use mathlib.Core.Path.{sym, ◌∙◌}
use Rattle.rfc.proofs.Header.{area_inside}
use Rattle.borrowed.proofs.Shown.{part_there}
use Rattle.lines.specs.Listing.{area_lines}
use Rattle.lines.proofs.put_area.Goals as goal

pub returns-in-Ok-Some : goal.returns-in-Ok-Some
unfolding area_lines
returns-in-Ok-Some c =
    let told = rw c.in-Ok-Some.field-0-is at c.in-Ok-Some.ensures in
    let shows = c.part-area.ensures ∙ part_there _ _ _ (area_inside _ _ (sym told)) in
    rw (← told, ← shows) c.put_options.ensures
