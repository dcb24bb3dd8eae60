-- `write_text` meets its contract: a refusal, 11 where the text is not UTF-8, or a byte value's write.
-- Assumes nothing.
use mathlib.Core.Path.{◌≡◌, refl, sym, ap, ◌∙◌}
use Prim.Native.Nat.{ℕ}
use mathlib.Core.Bool.{Bool, not}
use mathlib.Core.List.{List}
use native.Mathlib.Omega.{arith}
use Rattle.rfc.specs.Text.{utf8}
use Rattle.rfc.specs.Values.{raw, not_text}
use Rattle.rfc.proofs.Readings.{text_kind}
use Rattle.rfc.proofs.Typed.{no_pairs, kind_11}
use Rattle.encoder.proofs.Answers.{refuses}
use Rattle.typed.proofs.Answers.{code_refused, code_none, as_bytes, holds, text_as}
use Rattle.std.proofs.lemmas.Result.{err_from_is_err_and}
use Rattle.typed.proofs.write_text.Goals as goal

-- the test of 11, by what `is_utf8` answers
told : (v : List ℕ) {is test : Bool} → is ≡ utf8 v → not is ≡ test → not_text 10 v ≡ test
told v e t = text_kind 10 v refl ∙ ap not (sym e) ∙ t

pub returns-in_err-writable : goal.returns-in_err-writable
returns-in_err-writable c =
    let e = err_from_is_err_and c.from_residual.result c.from_residual.ensures.1 in
    rw (e.1, e.2) (holds 10 _ _ _ _ (raw _) refl (code_refused 10 _ _ _ _ _ c.in_err-writable.ensures))

pub returns-then-not-is_utf8 : goal.returns-then-not-is_utf8
returns-then-not-is_utf8 c =
    holds 10 _ _ _ _ (raw _) refl
    (refuses _ _ _ _ 11 refl
    (kind_11 10 _ c.args.text.now _ _ (code_none 10 _ _ _ c.in_ok-writable.ensures) (no_pairs 10 _ (λ z. omega arith))
    (told _ c.is_utf8.ensures c.if-not-is_utf8.true-raw)))

pub returns : goal.returns
returns c =
    holds 10 _ _ _ _ (raw _) refl
    (as_bytes _ _ _ _ _ (text_as (told _ c.is_utf8.ensures c.if-not-is_utf8.false-raw))
    (code_none 10 _ _ _ c.in_ok-writable.ensures) c.write_bytes.ensures)
