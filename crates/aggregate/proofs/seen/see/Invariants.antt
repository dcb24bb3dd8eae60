-- `see` meets its contract: what is left of the field gives, from where the loop stands, the same end (`Going`).
-- Assumes nothing.
use mathlib.Core.Path.{◌≡◌}
use lib.ListN.{drop}
use Rattle.rfc.specs.Portions.{portions, parts_in}
use Rattle.aggregate.specs.Marked.{sees}
use Rattle.aggregate.proofs.Marking.{Going}
use Rattle.aggregate.proofs.seen.see.Given as goal

abbrev pub invariant-loop-part : goal.invariant-loop-part
invariant-loop-part l = (goal.iterator-loop-part).can_next l.part-iterator × (goal.iterator-loop-part).is_finite l.part-iterator
    × (l.part-iterator.bytes.now ≡ l.bytes)
    × Going l.bytes l.index (sees l.index (l.initial.marks, l.fn.before) (parts_in (portions l.start (drop l.start l.bytes))))
    (l.marks, l.seen) l.part-iterator.at
