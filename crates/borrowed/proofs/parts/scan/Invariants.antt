-- `scan` meets its contract: what was counted, in front of the run that is left, is the whole run (`grow`).
-- Assumes nothing.
use Prim.Native.Nat.{◌≤◌, ◌-◌, ◌+◌, ◌*◌}
use mathlib.Core.Path.{◌≡◌}
use lib.ListN.{length, drop}
use Rattle.rfc.specs.Walk.{further}
use Rattle.borrowed.specs.Walked.{size_of}
use Rattle.borrowed.proofs.Runs.{grow}
use Rattle.borrowed.proofs.parts.scan.Given as goal

abbrev pub invariant-loop-i : goal.invariant-loop-i
invariant-loop-i l = (l.i ≤ length l.area)
    × (l.i ≡ l.at + (2 * l.parts + l.len))
    × (size_of (further l.code (drop l.at l.area)) ≡ grow l.parts l.len (size_of (further l.code (drop l.i l.area))))

abbrev pub decreases-loop-i : goal.decreases-loop-i
decreases-loop-i l = length l.area - l.i
