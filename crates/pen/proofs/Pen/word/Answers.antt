-- `word` meets its contract: so much of the word has been added.
-- Assumes nothing.
use Rattle.std.proofs.Common.{arith}
use Rattle.pen.proofs.Added.{nothing, one_more}
use Rattle.pen.proofs.Pen.word.Goals as goal

pub loop-character-init : goal.loop-character-init
loop-character-init c = nothing _

pub loop-character-preserved : goal.loop-character-preserved
loop-character-preserved c = one_more _ _ (omega arith) c.loop-character.invariant c.put.ensures
