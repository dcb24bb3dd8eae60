-- `read_option` meets its contract: what is no option passes through, and an option is read.
-- Assumes nothing.
use Rattle.std.proofs.lemmas.Result.{err_from_is_err_and}
use Rattle.whole.proofs.Answers.{passes_refused, passes_stop, not_read, is_read}
use Rattle.whole.proofs.read_option.Goals as goal

pub returns-in_err-stop : goal.returns-in_err-stop
returns-in_err-stop c =
    let e = err_from_is_err_and c.from_residual.result c.from_residual.ensures.1 in rw (e.1, e.2) (passes_refused _ _ _ c.in_err-stop.was)

pub returns-in-Stopped : goal.returns-in-Stopped
returns-in-Stopped c = passes_stop _ _ _ (rw c.in-Stopped.is at c.in_ok-stop.was)

pub returns-in_err-read-in-Found : goal.returns-in_err-read-in-Found
returns-in_err-read-in-Found c =
    let r = c.from_residual-in_err-read-in-Found in
    let e = err_from_is_err_and r.result r.ensures.1 in
    rw (c.in_ok-stop.was, c.in-Found.is, e.1, e.2) (not_read _ _ _ _ c.value.ensures _ c.in_err-read-in-Found.ensures)

pub returns-in_ok-read-in-Found : goal.returns-in_ok-read-in-Found
returns-in_ok-read-in-Found c =
    rw (c.in_ok-stop.was, c.in-Found.is) (is_read _ _ _ _ c.value.ensures _ c.in_ok-read-in-Found.ensures)
