-- `put_codes` meets its contract: the word, the number and the end of the line.
-- Assumes nothing.
use Rattle.pen.proofs.Added.{both}
use Rattle.joined_lines.specs.Joined.{codes_line}
use Rattle.joined_lines.proofs.put_codes.Goals as goal

pub returns : goal.returns
unfolding codes_line
returns c = both c.named.ensures c.word.ensures
