-- `write_numbers` meets its contract: a law of `write_slice` for each return.
-- Assumes nothing.
use mathlib.Core.Path.{ap, ◌∙◌}
use native.Mathlib.Omega.{arith}
use Rattle.std.proofs.Common.{◌+◌, ◌*◌, length}
use Rattle.encoder.proofs.Answers.{past_end, no_room, puts}
use Rattle.encoder.proofs.Turns.{length_bytes, turns_fit, turns_past}
use Rattle.encoder.proofs.write_numbers.Goals as goal

pub returns-then-place-room : goal.returns-then-place-room
returns-then-place-room g c = past_end _ _ _ c.if-place-room.true

pub returns-then-numbers-room : goal.returns-then-numbers-room
returns-then-numbers-room g c =
    let size = length_bytes g.met.N.Number.laws c.args.numbers.now in
    let past = turns_past g.met.N.Number.laws c.WIDTH.ensures c.if-numbers-room.true in
    no_room _ _ _ c.if-place-room.false (omega arith)

pub returns : goal.returns
returns g c =
    let size = length_bytes g.met.N.Number.laws c.args.numbers.now in
    let fit = turns_fit g.met.N.Number.laws c.WIDTH.ensures c.if-numbers-room.false in
    puts _ _ _ (omega (arith, c.if-place-room.false)) _ (ap (λ w. c.args.place + w * length c.args.numbers.now) c.WIDTH-2.ensures ∙ omega arith)
    c.put_numbers.ensures
