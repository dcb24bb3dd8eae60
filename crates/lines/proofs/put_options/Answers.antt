-- `put_options` meets its contract: the rest of the text is what the calls that are left give from where the loop stands.
-- Assumes nothing.
use mathlib.Core.Path.{ap, ◌∙◌}
use Rattle.rfc.specs.Walk as walk
use Rattle.pen.proofs.Added.{nothing}
use Rattle.lines.specs.Listing.{refused_line}
use Rattle.lines.proofs.Resting.{goes_on, ends}
use Rattle.lines.proofs.Telling.{lines_stopped, lines_refused, lines_more, lines_none}
use Rattle.lines.proofs.put_options.Goals as goal

pub loop-preserved : goal.loop-preserved
loop-preserved c =
    let l = c.loop in
    let told = (rw c.in-Ok-Found.field-0-is at c.in-Ok-Found.ensures.told) ∙ ap (walk.step _ _) l.invariant.1 in
    let line = rw c.value.ensures at c.put_option.ensures in
    (goes_on l.invariant.0 _ _ line (lines_more _ _ l.place _ l.counter c.loop-test.true _ _ _ _ told), c.step.auto.join ∙ l.invariant.1)

pub returns-in-Ok-Stopped : goal.returns-in-Ok-Stopped
returns-in-Ok-Stopped c =
    let l = c.loop in
    let told = (rw c.in-Ok-Stopped.field-0-is at c.in-Ok-Stopped.ensures.told) ∙ ap (walk.step _ _) l.invariant.1 in
    ends l.invariant.0 c.put_stop.ensures (lines_stopped _ _ l.place _ l.counter c.loop-test.true _ _ told)

pub returns-in-Err : goal.returns-in-Err
returns-in-Err c =
    let l = c.loop in
    let told = c.in-Err.ensures.told ∙ ap (walk.step _ _) l.invariant.1 in
    let line = ap refused_line c.number.ensures ∙ lines_refused _ _ l.place _ l.counter c.loop-test.true _ told in
    ends l.invariant.0 c.put_refused.ensures line

pub returns : goal.returns
returns c =
    let l = c.loop in
    ends l.invariant.0 (nothing _) (lines_none _ _ l.place _ l.counter c.loop-test.false)
