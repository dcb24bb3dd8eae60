-- `join_field` meets its contract: after each turn some values are joined (`Joined`), and the next one fits.
-- Assumes nothing.
use mathlib.Core.Path.{◌≡◌}
use Rattle.aggregate.proofs.Joining.{Joined}
use Rattle.aggregate.proofs.gather.join_field.Given as goal

abbrev pub invariant-loop-part : goal.invariant-loop-part
invariant-loop-part l = (goal.iterator-loop-part).can_next l.part-iterator × (goal.iterator-loop-part).is_finite l.part-iterator
    × (l.part-iterator.bytes.now ≡ l.bytes)
    × Joined l.bytes l.start l.code l.initial.join l.to l.join l.part-iterator.at l.end
