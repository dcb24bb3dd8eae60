-- `copy_blocks` meets its contract: after each turn the first i bytes are put over what stood there, and the last block ends at the end.
-- Assumes nothing.
use native.Mathlib.Omega.{arith}
use Rattle.facts.proofs.Laid.{laid_none, laid_more, laid_last}
use Rattle.encoder.proofs.copy_blocks.Goals as goal

pub loop-i-init : goal.loop-i-init
loop-i-init c = laid_none _ _ _ (omega arith)

pub loop-i-preserved : goal.loop-i-preserved
loop-i-preserved c =
    laid_more c.loop-i.invariant 16 (omega arith) c.block.ensures

pub returns : goal.returns
returns c =
    laid_last c.loop-i.invariant 16 (omega arith) (omega arith)
    c.block-2.ensures
