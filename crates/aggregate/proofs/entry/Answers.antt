-- `entry` meets its contract: what is answered is the option of the code at the index.
-- Assumes nothing.
use mathlib.Core.Path.{◌≡◌}
use Rattle.std.proofs.Common.{rules}
use Rattle.aggregate.proofs.Finding.{entry_closed, entry_open}
use Rattle.aggregate.proofs.entry.Goals as goal

pub returns-in_err-opened : goal.returns-in_err-opened
returns-in_err-opened c =
    let so = entry_closed c.args.message.now c.args.index c.args.join.now _ c.in_err-opened.ensures in
    search rules

pub returns : goal.returns
returns c =
    let o = c.in_ok-opened.opened in
    let same : o.message.now ≡ c.args.message.now = c.in_ok-opened.ensures in
    rw (← same) (entry_open _ _ _ o.opened c.code_at.ensures c.option.ensures)
