-- `chaddr` meets its contract: a refusal, or what the message shows.
-- Assumes nothing.
use Rattle.std.proofs.Common.{rules}
use Rattle.header.proofs.Readers.{chaddr_stopped}
use Rattle.header.proofs.Header.chaddr.Goals as goal

pub returns-in_err-read : goal.returns-in_err-read
returns-in_err-read c = search (rules, chaddr_stopped)
