-- `fill` meets its contract: what is left of the field gives, from where the loop stands, the same end (`Going`).
-- Assumes nothing.
use mathlib.Core.Path.{◌≡◌}
use lib.ListN.{drop}
use Rattle.rfc.specs.Portions.{portions, parts_in}
use Rattle.sindovaleph_entries.specs.Filling.{sheet, fills}
use Rattle.sindovaleph_entries.proofs.Filling.{Going}
use Rattle.sindovaleph_entries.proofs.fill.Given as goal

abbrev pub invariant-loop-part : goal.invariant-loop-part
invariant-loop-part l = (goal.iterator-loop-part).can_next l.part-iterator × (goal.iterator-loop-part).is_finite l.part-iterator
    × (l.part-iterator.bytes.now ≡ l.bytes)
    × Going l.bytes (fills (sheet l.initial.marks l.initial.rows l.before) (parts_in (portions l.start (drop l.start l.bytes))))
    (sheet l.marks l.rows l.codes) l.part-iterator.at
