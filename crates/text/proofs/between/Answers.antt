-- `between` meets its contract: the two tests are those of a range.
-- Assumes nothing.
use Rattle.facts.proofs.Ranges.{tests}
use Rattle.text.proofs.between.Goals as goal

pub returns : goal.returns
returns c = tests c.args.low c.args.high c.args.b
