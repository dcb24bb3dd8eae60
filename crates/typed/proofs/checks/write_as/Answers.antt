-- `write_as` meets its contract: a refusal, or a byte value's write.
-- Assumes nothing.
use Rattle.std.proofs.lemmas.Result.{err_from_is_err_and}
use Rattle.typed.proofs.Answers.{code_refused, code_none, as_bytes}
use Rattle.typed.proofs.checks.write_as.Goals as goal

pub returns-in_err-writable : goal.returns-in_err-writable
returns-in_err-writable c =
    let e = err_from_is_err_and c.from_residual.result c.from_residual.ensures.1 in
    rw (e.1, e.2) (code_refused _ _ _ _ _ _ c.in_err-writable.ensures)

pub returns : goal.returns
returns c = as_bytes _ _ _ _ _ c.requires (code_none _ _ _ _ c.in_ok-writable.ensures) c.write_bytes.ensures
