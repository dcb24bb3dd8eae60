-- `copy` meets its contract: two blocks, of which the second ends at the end, are one write.
-- Assumes nothing.
use native.Mathlib.Omega.{arith}
use Rattle.facts.proofs.Laid.{laid, laid_last}
use Rattle.encoder.proofs.copy.Goals as goal

pub returns-then-n-ge8 : goal.returns-then-n-ge8
returns-then-n-ge8 c =
    laid_last (laid _ _ _ 8 (omega arith) (omega arith) c.block.ensures) 8 (omega arith) (omega arith) c.block-then-n-ge8.ensures

pub returns-then-n-ge4 : goal.returns-then-n-ge4
returns-then-n-ge4 c =
    laid_last (laid _ _ _ 4 (omega arith) (omega arith) c.block-then-n-ge4.ensures) 4 (omega arith) (omega arith) c.block-then-n-ge4-2.ensures
