-- `copy_bytes` meets its contract: after i turns the first i bytes are put over what stood there.
-- Assumes nothing.
use Rattle.facts.proofs.Laid.{laid_none, laid_set}
use Rattle.encoder.proofs.copy_bytes.Goals as goal

pub loop-i-init : goal.loop-i-init
loop-i-init c = laid_none _ _ _ c.requires

pub loop-i-preserved : goal.loop-i-preserved
loop-i-preserved c = laid_set c.loop-i.invariant c.loop-i-test.true
