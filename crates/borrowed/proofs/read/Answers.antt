-- `read` meets its contract: a law of the walk at a place for each return.
-- Assumes nothing.
use mathlib.Core.Path.{refl}
use native.Mathlib.Omega.{arith}
use Rattle.rfc.proofs.Places.{out_at, end_at, cut_length_at, cut_value_at, further_none_at, further_other_at}
use Rattle.borrowed.proofs.Answers.{looked, starts_at, starts_alone}
use Rattle.borrowed.proofs.read.Goals as goal
use Rattle.borrowed.proofs.read.Goals.{else-next-area-via-then-next-area+else-area-next, else-next-area-via-else-next-area}

pub returns-then-at-area : goal.returns-then-at-area
returns-then-at-area c = let ready = c.requires in (looked _ _ ready.small ready.within (out_at _ _ c.if-at-area.true), tt)

pub returns-then-code : goal.returns-then-code
returns-then-code c =
    let ready = c.requires in (looked _ _ ready.small ready.within (end_at _ _ c.if-at-area.false c.if-code.true), tt)

pub returns-then-area-at-lt2 : goal.returns-then-area-at-lt2
returns-then-area-at-lt2 c =
    let inside = c.if-at-area.false in
    let ready = c.requires in (
      looked _ _ ready.small ready.within (cut_length_at _ _ inside (ready.other inside) c.if-code.false c.if-area-at-lt2.true),
      tt,
    )

pub returns-then-len-area : goal.returns-then-len-area
returns-then-len-area c =
    let inside = c.if-at-area.false in
    let ready = c.requires in (
      looked _ _ ready.small ready.within
          (cut_value_at _ _ inside (ready.other inside) c.if-code.false (omega arith) c.if-len-area.true),
      tt,
    )

pub returns : goal.returns
returns c =
    let starts = starts_at _ _ c.requires.small (omega arith) (c.requires.other c.if-at-area.false) c.if-code.false in
    elim c.else-next-area.branch [
      | else-next-area-via-then-next-area+else-area-next w ↦
          (starts_alone starts (further_other_at _ _ _ w.if-next-area.true w.if-area-next.false), refl)
      | else-next-area-via-else-next-area w ↦ (starts_alone starts (further_none_at _ _ _ w.if-next-area.false), refl)
    ]
