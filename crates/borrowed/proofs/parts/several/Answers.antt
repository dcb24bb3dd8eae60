-- `several` meets its contract: too little room to join in, or all parts joined; a cut one stops it.
-- Assumes nothing.
use Rattle.borrowed.proofs.Answers.{passes_stop, parts_to, passes_short, passes_joined}
use Rattle.borrowed.proofs.parts.several.Goals as goal

pub returns-then-found-join : goal.returns-then-found-join
returns-then-found-join c = passes_short c.requires _ c.in-Found.ensures c.if-found-join.true

pub join_parts-requires : goal.join_parts-requires
join_parts-requires c = parts_to c.requires _ c.in-Found.ensures c.if-found-join.false

pub returns-else-found-join : goal.returns-else-found-join
returns-else-found-join c = passes_joined c.requires _ c.in-Found.ensures c.join_parts.ensures c.if-found-join.false

pub returns-in-Stopped : goal.returns-in-Stopped
returns-in-Stopped c = passes_stop _ _ _ _ _ c.in-Stopped.ensures
