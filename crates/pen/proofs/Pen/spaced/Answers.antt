-- `spaced` meets its contract: so many of the bytes have been added.
-- Assumes nothing.
use Rattle.std.proofs.Common.{arith}
use Rattle.pen.specs.Texts.{spaced}
use Rattle.pen.proofs.Added.{nothing, both, renamed}
use Rattle.pen.proofs.Texts.{one_spaced}
use Rattle.pen.proofs.Pen.spaced.Goals as goal

pub loop-byte-init : goal.loop-byte-init
unfolding spaced
loop-byte-init c = nothing _

pub loop-byte-preserved : goal.loop-byte-preserved
loop-byte-preserved c = renamed (both c.loop-byte.invariant c.named.ensures) (one_spaced _ _ (omega arith))
