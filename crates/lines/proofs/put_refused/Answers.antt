-- `put_refused` meets its contract: the word, the number and the end of the line.
-- Assumes nothing.
use Rattle.pen.proofs.Added.{both}
use Rattle.lines.specs.Listing.{refused_line}
use Rattle.lines.proofs.put_refused.Goals as goal

pub returns : goal.returns
unfolding refused_line
returns c = both c.named.ensures c.word.ensures
