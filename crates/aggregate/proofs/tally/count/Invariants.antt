-- `count` meets its contract: counted of what is left, behind what was counted, is counted of all.
-- Assumes nothing.
use Prim.Native.Nat.{◌+◌, ◌-◌, ◌≤◌}
use mathlib.Core.Path.{◌≡◌}
use lib.ListN.{length, drop}
use Rattle.rfc.specs.Portions.{portions}
use Rattle.aggregate.specs.Tallies.{counted}
use Rattle.aggregate.proofs.tally.count.Given as goal

abbrev pub invariant-loop-part : goal.invariant-loop-part
invariant-loop-part l = (goal.iterator-loop-part).can_next l.part-iterator × (goal.iterator-loop-part).is_finite l.part-iterator
    × (l.part-iterator.bytes.now ≡ l.bytes)
    × (l.counted.parts + l.counted.len + (length l.bytes - l.part-iterator.at) ≤ l.fn.before.parts + l.fn.before.len + length l.bytes)
    × (counted l.code l.fn.before (portions l.start (drop l.start l.bytes)) ≡ counted l.code l.counted (portions l.part-iterator.at (drop l.part-iterator.at l.bytes)))
