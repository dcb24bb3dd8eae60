-- `count` meets its contract: counted of what is left, behind what was counted, is counted of all.
-- Assumes nothing.
use mathlib.Core.Path.{◌≡◌, ◌∙◌, refl, sym, ap}
use native.Mathlib.Omega.{arith}
use lib.ListN.{drop}
use Rattle.std.specs.Prelude.{Err, Some}
use Rattle.std.proofs.Common.{rules}
use Rattle.rfc.specs.Portions.{portions}
use Rattle.portions.proofs.Left.{ended_left, cut_left, cut_says, first_part, gives_none, gives_cut, gives_part}
use Rattle.aggregate.specs.Tallies.{tallied, counted}
use Rattle.aggregate.proofs.Tallying.{counts, skips}
use Rattle.aggregate.proofs.tally.count.Goals as goal

pub returns-in_err-part : goal.returns-in_err-part
returns-in_err-part c =
    let a = c.args in
    let same = c.loop-part.invariant.2 in
    let g = gives_cut _ _ _ _ c.next.ensures.steps (c.in-Some.is ∙ ap Some c.in_err-part.was) in
    let told = rw same at g in
    let so : Err c.in_err-part.field-0.0 ≡ counted a.code a.before (portions a.start (drop a.start a.bytes.now)) =
    ap Err (cut_says a.bytes.now _ told refl) ∙ sym (c.loop-part.invariant.4 ∙ ap (counted _ _) (cut_left a.bytes.now _ told refl)) in
    search rules

pub overflow_add-counted-then-part-code : goal.overflow_add-counted-then-part-code
overflow_add-counted-then-part-code c =
    let g = gives_part _ _ _ _ c.next.ensures.steps (c.in-Some.is ∙ ap Some c.in_ok-part.was) in
    let p = first_part c.args.bytes.now _ (rw c.loop-part.invariant.2 at g.0) refl in omega (arith, p.behind, p.within, c.loop-part.invariant.3)

pub loop-part-preserved-then-part-code : goal.loop-part-preserved-then-part-code
loop-part-preserved-then-part-code c =
    let g = gives_part _ _ _ _ c.next.ensures.steps (c.in-Some.is ∙ ap Some c.in_ok-part.was) in
    let p = first_part c.args.bytes.now _ (rw c.loop-part.invariant.2 at g.0) refl in
    (tt, tt, g.1 ∙ c.loop-part.invariant.2, omega (arith, p.behind, p.within, g.2, c.loop-part.invariant.3), rw g.2 (c.loop-part.invariant.4 ∙ counts _ _ p c.if-part-code.true))

pub loop-part-preserved : goal.loop-part-preserved
loop-part-preserved c =
    let g = gives_part _ _ _ _ c.next.ensures.steps (c.in-Some.is ∙ ap Some c.in_ok-part.was) in
    let p = first_part c.args.bytes.now _ (rw c.loop-part.invariant.2 at g.0) refl in
    (tt, tt, g.1 ∙ c.loop-part.invariant.2, omega (arith, p.behind, p.within, g.2, c.loop-part.invariant.3), rw g.2 (c.loop-part.invariant.4 ∙ skips _ _ p c.if-part-code.false))

pub returns : goal.returns
unfolding tallied
returns c =
    let g = gives_none _ _ _ _ c.next.ensures.steps c.in-None.is in
    sym (c.loop-part.invariant.4 ∙ ap (counted _ _) (ended_left c.args.bytes.now _ (rw c.loop-part.invariant.2 at g) refl))
