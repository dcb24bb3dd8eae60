-- `part` meets its contract: the bytes that are there are the front of what stands from `start` on.
-- Assumes nothing.
use Rattle.borrowed.proofs.Shown.{part_front}
use Rattle.borrowed.proofs.part.Goals as goal

pub returns-in-Some : goal.returns-in-Some
returns-in-Some c =
    let is = rw c.in-Some.rest-is at c.in-Some.ensures.lookup in part_front _ _ _ is.0.0 is.0.2 c.if-len-rest.true
