-- `write` meets its contract: a law for each return.
-- Assumes nothing.
use Rattle.std.proofs.Common.{refl}
use Rattle.rfc.proofs.Writing.{into_2, into_4}
use Rattle.refusal.specs.declared.Refusal.TheVariants.{TooLong, PastEnd}
use Rattle.encoder.proofs.Answers.{refuses}
use Rattle.pen.proofs.Measured.{too_long, not_too_long}
use Rattle.pen.proofs.write.Goals as goal

pub returns-then-room-gt-MOST_BYTES : goal.returns-then-room-gt-MOST_BYTES
returns-then-room-gt-MOST_BYTES g c = refuses _ _ _ TooLong 2 refl (into_2 _ _ _ c.if-room-gt-MOST_BYTES.true)

pub returns-then-place-room : goal.returns-then-place-room
returns-then-place-room g c = refuses _ _ _ PastEnd 4 refl (into_4 _ _ _ c.if-room-gt-MOST_BYTES.false c.if-place-room.true)

pub returns-then-size-room : goal.returns-then-size-room
returns-then-size-room g c =
    too_long _ _ _ _ _ _ c.if-room-gt-MOST_BYTES.false c.if-place-room.false c.show_at-size.ensures c.if-size-room.true

pub returns : goal.returns
returns g c =
    not_too_long _ _ _ _ _ _ c.if-room-gt-MOST_BYTES.false c.if-place-room.false c.show_at-size.ensures c.if-size-room.false
    c.show_at.ensures
