-- `copy_blocks` meets its contract: after each turn the first i bytes are put over what stood there, and the last block ends at the end.
-- Assumes nothing.
use Prim.Native.Nat.{◌-◌}
use lib.ListN.{length}
use Rattle.facts.proofs.Laid.{Laid}
use Rattle.encoder.proofs.copy_blocks.Given as goal

abbrev pub invariant-loop-i : goal.invariant-loop-i
invariant-loop-i l = Laid l.initial.to l.to l.from l.place l.i

abbrev pub decreases-loop-i : goal.decreases-loop-i
decreases-loop-i l = length l.from - l.i
