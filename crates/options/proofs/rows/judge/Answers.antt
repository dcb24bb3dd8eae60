-- `judge` meets its contract: from where the loop stands, the rows that are left give the same outcome (`Reached`), in the room as it
-- would be written.
-- Assumes nothing.
use mathlib.Core.Path.{◌≡◌}
use native.Mathlib.Omega.{arith}
use Rattle.std.proofs.Common.{◌/◌, length, Ok, Err, rules}
use Rattle.std.proofs.lemmas.Result.{err_from_is_err_and}
use Rattle.options.proofs.Runs.{Named, judged_more, judged_at, judged_end}
use Rattle.options.proofs.rows.judge.Goals as goal

pub returns-in_err-at : goal.returns-in_err-at
returns-in_err-at c =
    let p = err_from_is_err_and c.from_residual.result c.from_residual.ensures.1 in
    let named : Named c.loop-row.row c.judge_row-to.result (Err c.in_err-at.field-0.0) = search rules in
    rw (p.1, p.2) (judged_at c.loop-row.invariant c.loop-row-test.true _ (rw c.row_at.ensures at c.judge_row-to.ensures) _ named)

pub loop-row-preserved : goal.loop-row-preserved
loop-row-preserved c =
    let named : Named c.loop-row.row c.judge_row-to.result (Ok c.in_ok-at.at) = search rules in
    judged_more c.loop-row.invariant c.loop-row-test.true _ (rw c.row_at.ensures at c.judge_row-to.ensures) named

pub returns : goal.returns
returns c =
    let all : c.loop-row.row ≡ length c.args.rows.now / 3 = omega arith in
    rw (← all) (judged_end c.loop-row.invariant c.loop-row-test.false)
