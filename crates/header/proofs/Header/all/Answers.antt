-- `all` meets its contract: one refusal, or all fields.
-- Assumes nothing.
use Rattle.std.proofs.Common.{rules}
use Rattle.header.proofs.Readers.{all_stopped}
use Rattle.header.proofs.Header.all.Goals as goal

pub returns-in-Err : goal.returns-in-Err
returns-in-Err c = search (rules, all_stopped)
