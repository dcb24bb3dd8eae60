-- `fill` meets its contract: what is left of the field gives, from where the loop stands, the same end (`Going`).
-- Assumes nothing.
use mathlib.Core.Path.{refl, ap, ◌∙◌}
use native.Mathlib.Omega.{arith}
use Rattle.std.specs.Prelude.{Some}
use Rattle.rfc.proofs.Bytes.{bytes_known}
use Rattle.portions.specs.declared.Portions.{Portions}
use Rattle.portions.proofs.Left.{first_left, none_left, gives_none, gives_part, gives_ok}
use Rattle.sindovaleph_entries.proofs.Filling.{going_all, going_out, going_puts, going_more}
use Rattle.sindovaleph_entries.proofs.fill.Goals as goal

pub loop-part-init : goal.loop-part-init
loop-part-init c =
    let from = c.into_iter-part-iterator.ensures.into_iter_gives in
    (tt, tt, ap (λ (p : Portions). p.bytes.now) from, rw (ap (λ (p : Portions). p.at) from) (going_all _ _ _ c.requires))

pub unwrap-requires : goal.unwrap-requires
unwrap-requires c =
    let v = c.loop-part.invariant in
    gives_ok _ _ _ _ (rw (← v.2) at v.3.left) c.next.ensures.steps _ c.in-Some.is

pub put_part-codes-requires : goal.put_part-codes-requires
put_part-codes-requires c =
    let v = c.loop-part.invariant in
    let g = gives_part _ _ _ _ c.next.ensures.steps (c.in-Some.is ∙ ap Some c.unwrap.ensures) in
    let told = rw v.2 at g.0 in
    going_puts v.3 (bytes_known _ (λ i. omega (arith, c.type_inv.bytes i))) (first_left c.args.bytes.now _ _ v.3.left _ told refl)

pub loop-part-preserved : goal.loop-part-preserved
loop-part-preserved c =
    let v = c.loop-part.invariant in
    let g = gives_part _ _ _ _ c.next.ensures.steps (c.in-Some.is ∙ ap Some c.unwrap.ensures) in
    let told = rw v.2 at g.0 in
    let found = first_left c.args.bytes.now _ _ v.3.left _ told refl in
    (tt, tt, g.1 ∙ v.2, rw g.2 (going_more v.3 (bytes_known _ (λ i. omega (arith, c.type_inv.bytes i))) found _ c.put_part-codes.ensures))

pub returns : goal.returns
returns c =
    let v = c.loop-part.invariant in
    let g = gives_none _ _ _ _ c.next.ensures.steps c.in-None.is in
    going_out v.3 (none_left c.args.bytes.now _ _ v.3.left _ (rw v.2 at g) refl)
