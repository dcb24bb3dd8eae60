-- `named` meets its contract: a word, and a number behind it.
-- Assumes nothing.
use Rattle.pen.proofs.Added.{both}
use Rattle.pen.proofs.Pen.named.Goals as goal

pub returns : goal.returns
returns c = both c.word.ensures c.decimal.ensures
