-- `option` meets its contract: what was counted says what is answered.
-- Assumes nothing.
use native.Mathlib.Omega.{arith}
use Rattle.aggregate.proofs.Answering.{value_fits, answers_none, answers_needs, answers_one, answers_many, answers_empty}
use Rattle.aggregate.proofs.opened.Opened.option.Goals as goal

pub returns-then-all-eq0 : goal.returns-then-all-eq0
returns-then-all-eq0 c = answers_none _ _ _ c.tally-all.ensures c.if-all-eq0.true

pub returns-then-all-join : goal.returns-then-all-join
returns-then-all-join c =
    answers_needs _ _ _ c.tally-all.ensures c.if-all-gt1.true c.if-all-join.true

pub join-requires : goal.join-requires
join-requires c =
    value_fits _ _ c.args.join.now c.tally-all.ensures c.if-all-join.false

pub returns-then-all-gt0 : goal.returns-then-all-gt0
returns-then-all-gt0 c =
    answers_many _ _ _ c.tally-all.ensures c.if-all-gt1.true c.if-all-join.false c.join.ensures

pub returns-else-all-gt0 : goal.returns-else-all-gt0
returns-else-all-gt0 c =
    answers_empty _ _ _ c.tally-all.ensures c.if-all-gt1.true c.if-all-gt0.false

pub returns-else-all-gt1 : goal.returns-else-all-gt1
returns-else-all-gt1 c =
    answers_one _ _ _ c.tally-all.ensures (omega (arith, c.if-all-eq0.false, c.if-all-gt1.false))
