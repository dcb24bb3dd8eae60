-- `count` meets its contract: one of the further parts is cut, or all are whole.
-- Assumes nothing.
use Rattle.borrowed.proofs.Answers.{starts_cut, starts_whole}
use Rattle.borrowed.proofs.parts.count.Goals as goal

pub returns-in-None : goal.returns-in-None
returns-in-None c = starts_cut c.requires.starts c.in-None.ensures.told

pub returns-in-Some : goal.returns-in-Some
returns-in-Some c = starts_whole c.requires.starts _ c.in-Some.ensures.told
