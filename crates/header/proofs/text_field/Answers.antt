-- `text_field` meets its contract: a refusal, or the bytes before the first zero.
-- Assumes nothing.
use Rattle.std.proofs.Common.{rules}
use Rattle.header.proofs.Readers.{text_stopped, texts}
use Rattle.header.proofs.text_field.Goals as goal

pub returns-in_err-read : goal.returns-in_err-read
returns-in_err-read c = search (rules, text_stopped)

pub returns : goal.returns
returns c = let f = texts _ c.in_ok-read.field-0.least c.in_ok-read.field-0.most in search (rules, f)
