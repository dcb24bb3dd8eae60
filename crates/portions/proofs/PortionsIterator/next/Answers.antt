-- `next` makes progress: a part takes two bytes or more, and none is left behind a cut.
-- Assumes nothing.
use mathlib.Core.Path.{ap, ◌∙◌}
use Rattle.std.specs.Prelude.{Ok}
use Rattle.std.proofs.Common.{rules}
use Rattle.portions.proofs.Left.{first_part, cut_inside}
use Rattle.portions.proofs.PortionsIterator.next.Goals as goal

pub returns-in-Ok-Some-clause-goes : goal.returns-in-Ok-Some-clause-goes
returns-in-Ok-Some-clause-goes c =
    let p = first_part _ _ c.portion_at.ensures (c.in-Ok-Some.is ∙ ap Ok c.in-Ok-Some.field-0-is) in
    let a = p.behind in
    let b = p.within in
    search rules

pub returns-in-Err-clause-goes : goal.returns-in-Err-clause-goes
returns-in-Err-clause-goes c =
    let p = cut_inside _ _ c.portion_at.ensures c.in-Err.is in search rules
