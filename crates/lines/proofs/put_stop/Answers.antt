-- `put_stop` meets its contract: the word, the place and the end of the line.
-- Assumes nothing.
use Rattle.pen.proofs.Added.{both}
use Rattle.lines.specs.Listing.{stop_line}
use Rattle.lines.proofs.put_stop.Goals as goal

pub returns : goal.returns
unfolding stop_line
returns c = rw (← c.stop_word.ensures) (both c.named.ensures c.word.ensures)
