-- `see` meets its contract: what is left of the field gives, from where the loop stands, the same end (`Going`).
-- Assumes nothing.
use mathlib.Core.Path.{◌≡◌, refl, sym, ap, ◌∙◌}
use native.Mathlib.Omega.{arith}
use mathlib.Core.Bool.{cond}
use lib.Dec.{eqb}
use Rattle.std.specs.Prelude.{Some}
use Rattle.portions.specs.declared.Portions.{Portions}
use Rattle.portions.proofs.Left.{first_left, none_left, gives_none, gives_part, gives_ok}
use Rattle.aggregate.proofs.Marking.{going_all, going_out, kept_here, kept_before, going_new, going_old}
use Rattle.aggregate.proofs.seen.see.Goals as goal
use Rattle.aggregate.proofs.seen.see.Goals.{then-seen-index, else-seen-index}

pub loop-part-init : goal.loop-part-init
loop-part-init c =
    let from = c.into_iter-part-iterator.ensures.into_iter_gives in
    (tt, tt, ap (λ (p : Portions). p.bytes.now) from, rw (ap (λ (p : Portions). p.at) from) (going_all _ _ c.args.index _ c.requires))

pub unwrap-part-requires : goal.unwrap-part-requires
unwrap-part-requires c =
    let v = c.loop-part.invariant in
    gives_ok _ _ _ _ (rw (← v.2) at v.3.left) c.next.ensures.steps _ c.in-Some.is

pub loop-part-preserved-then-marks-part-eq0 : goal.loop-part-preserved-then-marks-part-eq0
loop-part-preserved-then-marks-part-eq0 c =
    let l = c.loop-part in
    let p = c.unwrap-part.result in
    let v = l.invariant in
    let g = gives_part _ _ _ _ c.next.ensures.steps (c.in-Some.is ∙ ap Some c.unwrap-part.ensures) in
    let told = rw v.2 at g.0 in
    let found = first_left c.args.bytes.now _ _ v.3.left _ told refl in
    let kept : c.if-seen-index.seen ≡ record { codes = l.seen.codes; code = cond (eqb l.seen.codes c.args.index) p.code l.seen.code } =
    elim c.if-seen-index.branch [
      | then-seen-index w ↦ w.seen-is
          ∙ (λ i. record { codes = l.seen.codes; code = sym (kept_here l.seen.codes c.args.index p.code l.seen.code w.if-seen-index.true) i })
      | else-seen-index w ↦ w.seen-is
          ∙ (λ i. record { codes = l.seen.codes; code = sym (kept_before l.seen.codes c.args.index p.code l.seen.code w.if-seen-index.false) i })
    ] in
    (tt, tt, g.1 ∙ v.2, rw (g.2, kept) (going_new v.3 found (omega arith) c.if-marks-part-eq0.true _ refl))

pub loop-part-preserved : goal.loop-part-preserved
loop-part-preserved c =
    let v = c.loop-part.invariant in
    let g = gives_part _ _ _ _ c.next.ensures.steps (c.in-Some.is ∙ ap Some c.unwrap-part.ensures) in
    let told = rw v.2 at g.0 in
    let found = first_left c.args.bytes.now _ _ v.3.left _ told refl in
    (tt, tt, g.1 ∙ v.2, rw g.2 (going_old v.3 found c.if-marks-part-eq0.false))

pub returns : goal.returns
returns c =
    let v = c.loop-part.invariant in
    let g = gives_none _ _ _ _ c.next.ensures.steps c.in-None.is in
    going_out v.3 (none_left c.args.bytes.now _ _ v.3.left _ (rw v.2 at g) refl)
