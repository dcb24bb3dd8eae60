-- `past_ascii` meets its contract: what is left stands behind blocks that are ASCII.
-- Assumes nothing.
use Rattle.std.proofs.Common.{length}
use Rattle.text.specs.Ascii.{Passed}
use Rattle.text.proofs.past_ascii.Given as goal

abbrev pub invariant-loop-rest : goal.invariant-loop-rest
invariant-loop-rest l = Passed l.text l.rest

abbrev pub decreases-loop-rest : goal.decreases-loop-rest
decreases-loop-rest l = length l.rest
