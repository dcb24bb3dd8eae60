-- `put_entries` meets its contract: the rest of the text is what the calls that are left give.
-- Assumes nothing.
use mathlib.Core.Path.{ap, ◌∙◌}
use Rattle.rfc.specs.Aggregate.{entry}
use Rattle.pen.proofs.Added.{nothing}
use Rattle.lines.specs.Listing.{refused_line}
use Rattle.lines.proofs.Resting.{goes_on, ends}
use Rattle.joined_lines.proofs.Telling.{entries_stopped, entries_refused, entries_more, entries_none}
use Rattle.joined_lines.proofs.put_entries.Goals as goal

pub loop-index-preserved : goal.loop-index-preserved
loop-index-preserved c =
    let l = c.loop-index in
    let told = (rw c.in-Ok-Found.field-0-is at c.in-Ok-Found.ensures.told) ∙ ap (entry _ _) l.invariant.1 in
    let line = rw c.value.ensures at c.put_option.ensures in
    (goes_on l.invariant.0 _ _ line (entries_more _ _ _ l.index c.loop-index-test.true _ _ _ _ told), c.entry.auto.join ∙ l.invariant.1)

pub returns-in-Ok-Stopped : goal.returns-in-Ok-Stopped
returns-in-Ok-Stopped c =
    let l = c.loop-index in
    let told = (rw c.in-Ok-Stopped.field-0-is at c.in-Ok-Stopped.ensures.told) ∙ ap (entry _ _) l.invariant.1 in
    ends l.invariant.0 c.put_codes.ensures (entries_stopped _ _ _ l.index c.loop-index-test.true _ _ told)

pub returns-in-Err : goal.returns-in-Err
returns-in-Err c =
    let l = c.loop-index in
    let told = c.in-Err.ensures.told ∙ ap (entry _ _) l.invariant.1 in
    let line = ap refused_line c.number.ensures ∙ entries_refused _ _ _ l.index c.loop-index-test.true _ told in
    ends l.invariant.0 c.put_refused.ensures line

pub returns : goal.returns
returns c =
    let l = c.loop-index in
    ends l.invariant.0 (nothing _) (entries_none _ _ l.index _ c.loop-index-test.false)
