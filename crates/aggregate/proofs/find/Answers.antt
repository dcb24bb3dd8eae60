-- `find` meets its contract: each check refuses what the definition refuses, and behind them stands the option of the code.
-- Assumes nothing.
use mathlib.Core.Path.{◌≡◌}
use Rattle.std.proofs.Common.{rules}
use Rattle.aggregate.proofs.Finding.{find_unread_so, find_pad, find_end, find_closed, find_open}
use Rattle.aggregate.proofs.find.Goals as goal

pub returns-in_err-check_read : goal.returns-in_err-check_read
returns-in_err-check_read c =
    let so = find_unread_so c.args.message.now c.args.code c.args.join.now _ c.in_err-check_read.ensures in
    search rules

pub returns-then-code-eq0 : goal.returns-then-code-eq0
returns-then-code-eq0 c = find_pad _ _ _ c.in_ok-check_read.ensures c.if-code-eq0.true

pub returns-then-code-eq255 : goal.returns-then-code-eq255
returns-then-code-eq255 c = find_end _ _ _ c.in_ok-check_read.ensures c.if-code-eq0.false c.if-code-eq255.true

pub returns-in_err-of : goal.returns-in_err-of
returns-in_err-of c =
    let so = find_closed c.args.message.now c.args.code c.args.join.now c.in_ok-check_read.ensures c.if-code-eq0.false c.if-code-eq255.false _
    c.in_err-of.ensures in
    search rules

pub returns : goal.returns
returns c =
    let o = c.in_ok-of.field-0 in
    let same : o.message.now ≡ c.args.message.now = c.in_ok-of.ensures in
    rw (← same) (find_open _ _ _ c.if-code-eq0.false c.if-code-eq255.false o.opened c.option.ensures)
