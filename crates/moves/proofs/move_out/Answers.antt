-- `move_out` meets its contract: what is lent, the pairs, and both passes over them.
-- Assumes nothing.
use mathlib.Core.Path.{ap}
use native.Mathlib.Omega.{arith}
use Rattle.std.specs.Prelude.{is_some}
use Rattle.moves.proofs.Whole.{out_long, out_refused, out_odd, out_moves}
use Rattle.moves.proofs.move_out.Goals as goal

pub returns-then-value-gt-MOST_BYTES : goal.returns-then-value-gt-MOST_BYTES
returns-then-value-gt-MOST_BYTES c = out_long c.args.value.now c.args.room.now c.args.place (omega arith)

pub returns-in-Some : goal.returns-in-Some
returns-in-Some c =
    out_refused c.args.value.now c.args.room.now c.args.place (omega arith) c.begin-start.result c.begin-start.ensures c.in-Some.refusal c.in-Some.is

pub returns-then-value-gt0 : goal.returns-then-value-gt0
returns-then-value-gt0 c =
    out_odd c.args.value.now c.args.room.now c.args.place (omega arith) c.begin-start.result c.begin-start.ensures
    (ap is_some c.in_default.is) (omega arith)

pub returns : goal.returns
returns c =
    out_moves c.args.value.now c.args.room.now c.args.place (omega arith) c.begin-start.result c.begin-start.ensures (omega arith)
    (c.lay.result, c.lay.new.room) c.lay.ensures
