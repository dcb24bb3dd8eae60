-- `area` meets its contract: a refusal, or that of the message.
-- Assumes nothing.
use Rattle.std.proofs.Common.{rules}
use Rattle.header.proofs.Readers.{area_stopped}
use Rattle.header.proofs.Header.area.Goals as goal

pub returns-in_err-read : goal.returns-in_err-read
returns-in_err-read c = search (rules, area_stopped)
