-- `join_field` meets its contract: after each turn some values are joined (`Joined`), and the next one fits.
-- Assumes nothing.
use mathlib.Core.Path.{refl, ap, ◌∙◌}
use native.Mathlib.Omega.{arith}
use Rattle.std.specs.Prelude.{Some}
use Rattle.portions.specs.declared.Portions.{Portions}
use Rattle.portions.proofs.Left.{gives_none, gives_part, gives_ok}
use Rattle.aggregate.proofs.Joining.{joined_start, join_long, joined_all, part_within, joined_other, part_fits, joined_more}
use Rattle.aggregate.proofs.gather.join_field.Goals as goal

pub loop-part-init : goal.loop-part-init
loop-part-init c =
    let from = c.into_iter-part-iterator.ensures.into_iter_gives in
    (tt, tt, ap (λ (p : Portions). p.bytes.now) from, rw (ap (λ (p : Portions). p.at) from) (joined_start c.requires))

pub unwrap-part-requires : goal.unwrap-part-requires
unwrap-part-requires c =
    let v = c.loop-part.invariant in
    gives_ok _ _ _ _ (rw (← v.2) at v.3.rest) c.next.ensures.steps _ c.in-Some.is

pub overflow_sub-value : goal.overflow_sub-value
overflow_sub-value c =
    let v = c.loop-part.invariant in
    let g = gives_part _ _ _ _ c.next.ensures.steps (c.in-Some.is ∙ ap Some c.unwrap-part.ensures) in
    let told = rw v.2 at g.0 in
    omega (arith, part_within v.3 _ told refl)

pub slice_bounds-value-end : goal.slice_bounds-value-end
slice_bounds-value-end c =
    let v = c.loop-part.invariant in
    let g = gives_part _ _ _ _ c.next.ensures.steps (c.in-Some.is ∙ ap Some c.unwrap-part.ensures) in
    let told = rw v.2 at g.0 in
    omega (arith, part_within v.3 _ told refl)

pub overflow_add-end : goal.overflow_add-end
overflow_add-end c =
    let v = c.loop-part.invariant in
    let g = gives_part _ _ _ _ c.next.ensures.steps (c.in-Some.is ∙ ap Some c.unwrap-part.ensures) in
    let told = rw v.2 at g.0 in
    omega (arith, part_fits v.3 _ told refl c.if-part-code.true, join_long v.3)

pub slice_bounds-write_slice-end : goal.slice_bounds-write_slice-end
slice_bounds-write_slice-end c =
    let v = c.loop-part.invariant in
    let g = gives_part _ _ _ _ c.next.ensures.steps (c.in-Some.is ∙ ap Some c.unwrap-part.ensures) in
    let told = rw v.2 at g.0 in
    omega (arith, part_fits v.3 _ told refl c.if-part-code.true, join_long v.3)

pub loop-part-preserved-then-part-code : goal.loop-part-preserved-then-part-code
loop-part-preserved-then-part-code c =
    let v = c.loop-part.invariant in
    let g = gives_part _ _ _ _ c.next.ensures.steps (c.in-Some.is ∙ ap Some c.unwrap-part.ensures) in
    let told = rw v.2 at g.0 in
    (tt, tt, g.1 ∙ v.2, rw g.2 (joined_more v.3 _ told refl c.if-part-code.true c.write_slice.ensures))

pub loop-part-preserved : goal.loop-part-preserved
loop-part-preserved c =
    let v = c.loop-part.invariant in
    let g = gives_part _ _ _ _ c.next.ensures.steps (c.in-Some.is ∙ ap Some c.unwrap-part.ensures) in
    let told = rw v.2 at g.0 in
    (tt, tt, g.1 ∙ v.2, rw g.2 (joined_other v.3 _ told refl c.if-part-code.false))

pub returns : goal.returns
returns c =
    let v = c.loop-part.invariant in
    let g = gives_none _ _ _ _ c.next.ensures.steps c.in-None.is in
    joined_all v.3 _ (rw v.2 at g) refl
