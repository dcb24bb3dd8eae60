-- `first` meets its contract: a law of the first look for each return.
-- Assumes nothing.
use native.Mathlib.Omega.{arith}
use Rattle.rfc.proofs.Places.{end_at, cut_value_at, further_none_at, further_other_at}
use Rattle.borrowed.proofs.Answers.{looked, starts_at, starts_alone}
use Rattle.borrowed.proofs.FirstLook.{first_told, first_several}
use Rattle.borrowed.proofs.first.Goals as goal
use Rattle.borrowed.proofs.first.Goals.{else-to-size-via-then-to-size+else-area-to, else-to-size-via-else-to-size}

pub returns-then-code : goal.returns-then-code
returns-then-code c = first_told _ _ (omega arith) c.if-code-eq0.false (looked _ _ (omega arith) (omega arith) (end_at _ _ (omega arith) c.if-code.true))

pub returns-then-len-last : goal.returns-then-len-last
returns-then-len-last c =
    let other = c.if-code-eq0.false in
    first_told _ _ (omega arith) other
    (looked _ _ (omega arith) (omega arith)
    (cut_value_at _ _ (omega arith) other c.if-code.false (omega arith) (omega arith)))

pub returns-then-area-to : goal.returns-then-area-to
returns-then-area-to c =
    first_several _ _ (record {
      starts = starts_at _ _ (omega arith) (omega arith) c.if-code-eq0.false c.if-code.false;
      inside = c.if-to-size.true;
      same = c.if-area-to.true;
    })

pub returns : goal.returns
returns c =
    let s = starts_at c.args.area.now c.args.place (omega arith) (omega arith) c.if-code-eq0.false c.if-code.false in
    elim c.else-to-size.branch [
      | else-to-size-via-then-to-size+else-area-to w ↦
          first_told _ _ (omega arith) s.other (starts_alone s (further_other_at _ _ _ w.if-to-size.true w.if-area-to.false))
      | else-to-size-via-else-to-size w ↦ first_told _ _ (omega arith) s.other (starts_alone s (further_none_at _ _ _ w.if-to-size.false))
    ]
