-- `step` meets its contract: how the call begins is its answer, or that of the parts from there on.
-- Assumes nothing.
use Rattle.std.proofs.lemmas.Result.{err_from_is_err_and}
use Rattle.borrowed.proofs.Answers.{passes_refused, passes_done, passes_on}
use Rattle.borrowed.proofs.step.Goals as goal

pub returns-in_err-step : goal.returns-in_err-step
returns-in_err-step c =
    let e = err_from_is_err_and c.from_residual.result c.from_residual.ensures.1 in rw (e.1, e.2) (passes_refused _ _ _ _ c.in_err-step.ensures)

pub returns-in-Done : goal.returns-in-Done
returns-in-Done c =
    let begun = rw c.in-Done.is at c.in_ok-step.ensures in passes_done _ _ _ _ begun.0 begun.1

pub returns-in-Several : goal.returns-in-Several
returns-in-Several c =
    passes_on _ _ _ _ (rw c.in-Several.is at c.in_ok-step.ensures).1 c.several.ensures
