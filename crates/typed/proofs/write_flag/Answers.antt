-- `write_flag` meets its contract: a refusal, or the code and a length of 0.
-- Assumes nothing.
use mathlib.Core.Path.{refl}
use mathlib.Core.List.{[]}
use Rattle.std.proofs.lemmas.Result.{err_from_is_err_and}
use Rattle.rfc.specs.Values.{nothing}
use Rattle.typed.proofs.Answers.{code_refused, code_none, holds, flag_wrote}
use Rattle.typed.proofs.write_flag.Goals as goal

pub returns-in_err-writable : goal.returns-in_err-writable
returns-in_err-writable c =
    let e = err_from_is_err_and c.from_residual.result c.from_residual.ensures.1 in
    rw (e.1, e.2) (holds 15 _ [] _ _ nothing refl (code_refused 15 _ _ _ [] _ c.in_err-writable.ensures))

pub returns : goal.returns
returns c =
    holds 15 _ [] _ _ nothing refl (flag_wrote _ _ _ (code_none 15 _ _ _ c.in_ok-writable.ensures) c.write_slice.ensures)
