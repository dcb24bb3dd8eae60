-- `move_back` meets its contract: what is lent, and both passes over its rows.
-- Assumes nothing.
use native.Mathlib.Omega.{arith}
use Rattle.moves.proofs.Whole.{back_long, back_refused, back_moves}
use Rattle.moves.proofs.move_back.Goals as goal

pub returns-then-value-gt-MOST_BYTES : goal.returns-then-value-gt-MOST_BYTES
returns-then-value-gt-MOST_BYTES c = back_long c.args.value.now c.args.room.now c.args.place (omega arith)

pub returns-in-Some : goal.returns-in-Some
returns-in-Some c =
    back_refused c.args.value.now c.args.room.now c.args.place (omega arith) c.begin-start.result c.begin-start.ensures c.in-Some.refusal c.in-Some.is

pub returns : goal.returns
returns c =
    back_moves c.args.value.now c.args.room.now c.args.place (omega arith) c.begin-start.result c.begin-start.ensures
    (c.lay.result, c.lay.new.room) c.lay.ensures
