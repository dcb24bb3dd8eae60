-- `close` meets its contract: a law of `close` for each return.
-- Assumes nothing.
use mathlib.Core.Path.{refl, sym, ◌∙◌}
use native.Mathlib.Omega.{arith}
use Rattle.facts.proofs.Over.{set_over}
use Rattle.rfc.proofs.Writing.{close_2, close_4, close_8, close_given, close_left}
use Rattle.encoder.proofs.Answers.{refuses, writes}
use Rattle.options.proofs.close.Goals as goal

pub returns-then-room-gt-MOST_BYTES : goal.returns-then-room-gt-MOST_BYTES
returns-then-room-gt-MOST_BYTES c = refuses _ _ _ _ _ refl (close_2 _ _ c.if-room-gt-MOST_BYTES.true)

pub returns-then-place-room : goal.returns-then-place-room
returns-then-place-room c = refuses _ _ _ _ _ refl (close_4 _ _ c.if-room-gt-MOST_BYTES.false c.if-place-room.true)

pub returns-then-place-room-2 : goal.returns-then-place-room-2
returns-then-place-room-2 c =
    refuses _ _ _ _ _ refl (close_8 _ _ c.if-room-gt-MOST_BYTES.false c.if-place-room.false (omega arith))

pub returns : goal.returns
returns c =
    let short = c.if-room-gt-MOST_BYTES.false in
    let within = c.if-place-room.false in
    writes _ _ _ _ _ (close_given _ _ short within (omega arith))
    (close_left _ _ short within (omega arith) ∙ sym (set_over _ _ _ (omega arith)))
