-- `write_rows` meets its contract: a law of `write_rows` for each return.
-- Assumes nothing.
use Rattle.std.proofs.lemmas.Result.{err_from_is_err_and}
use Rattle.options.proofs.Runs.{rows_2, rows_4, rows_stuck, rows_pass, rows_all}
use borrow.Author.Rules.{rules}
use Rattle.options.proofs.rows.write_rows.Goals as goal

pub returns-then-room-gt-MOST_BYTES : goal.returns-then-room-gt-MOST_BYTES
returns-then-room-gt-MOST_BYTES c = search (rules, rows_2)

pub returns-then-place-room : goal.returns-then-place-room
returns-then-place-room c = search (rules, rows_4)

pub returns-in_err-written : goal.returns-in_err-written
returns-in_err-written c =
    let p = err_from_is_err_and c.from_residual.result c.from_residual.ensures.1 in
    rw (p.1, p.2) (rows_stuck _ _ _ _ c.if-room-gt-MOST_BYTES.false c.if-place-room.false c.in_err-written.ensures)

pub put_rows-requires : goal.put_rows-requires
put_rows-requires c = rows_pass _ _ _ _ c.if-room-gt-MOST_BYTES.false c.if-place-room.false _ c.in_ok-written.ensures

pub returns : goal.returns
returns c =
    rows_all _ _ _ _ c.if-room-gt-MOST_BYTES.false c.if-place-room.false _ c.in_ok-written.ensures
    c.put_rows.ensures
