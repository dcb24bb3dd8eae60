-- `scan_rows` goes over the rows of a value: those up to where the loop stands were seen.
-- Assumes nothing.
use Prim.Native.Nat.{◌-◌, ◌≤◌}
use lib.ListN.{length}
use Rattle.classless.proofs.Scans.{Seen}
use Rattle.classless.proofs.scan_rows.Given as goal

abbrev pub invariant-loop-row : goal.invariant-loop-row
invariant-loop-row l = (l.at ≤ length l.value) × (l.scan.count ≤ l.at) × Seen l.index l.value l.at l.scan

abbrev pub decreases-loop-row : goal.decreases-loop-row
decreases-loop-row l = length l.value - l.at
