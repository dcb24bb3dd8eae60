-- `field` meets its contract: a refusal, or the number that its bytes are.
-- Assumes nothing.
use Rattle.std.proofs.Common.{rules}
use Rattle.header.proofs.Readers.{field_stopped, fields}
use Rattle.header.proofs.field.Goals as goal

pub returns-in_err-read : goal.returns-in_err-read
returns-in_err-read c = search (rules, field_stopped)

pub returns : goal.returns
returns c = let f = fields _ c.in_ok-read.field-0.least c.in_ok-read.field-0.most in search (rules, f)
