-- `write_slice` meets its contract: a law of `write_slice` for each return.
-- Assumes nothing.
use mathlib.Core.Path.{refl}
use native.Mathlib.Omega.{arith}
use Rattle.encoder.proofs.Answers.{past_end, no_room, puts}
use Rattle.encoder.proofs.write_slice.Goals as goal

pub returns-then-place-room : goal.returns-then-place-room
returns-then-place-room c = past_end _ _ _ c.if-place-room.true

pub returns-then-bytes-room : goal.returns-then-bytes-room
returns-then-bytes-room c = no_room _ _ _ c.if-place-room.false (omega arith)

pub returns : goal.returns
returns c = puts _ _ _ (omega arith) _ refl c.copy.ensures
