-- `fill` meets its contract: what is still to list gives, from where the loop stands, the same end (`Going`).
-- Assumes nothing.
use mathlib.Core.Path.{sym, ap, ◌∙◌}
use Prim.Native.Nat.{ℕ, ◌/◌}
use native.Mathlib.Omega.{arith}
use Rattle.sindovaleph_rows.proofs.Rows.{four}
use Rattle.sindovaleph_rows.proofs.Filling.{lists_2, lists_4, lists_given, row_fits, rows_below, row_part, found_inside, going_none, going_full, going_stop, going_more, never}
use Rattle.sindovaleph_rows.proofs.listing.fill.Goals as goal

pub returns-then-area-gt-MOST_BYTES : goal.returns-then-area-gt-MOST_BYTES
returns-then-area-gt-MOST_BYTES g c = lists_2 _ _ _ _ c.if-area-gt-MOST_BYTES.true

pub returns-then-place-area : goal.returns-then-place-area
returns-then-place-area g c = lists_4 _ _ _ _ c.if-area-gt-MOST_BYTES.false c.if-place-area.true

pub nonzero_div-most : goal.nonzero_div-most
nonzero_div-most g c =
    omega (arith, c.WIDTH-width.ensures, g.met.R.Row.wide c.args.row, four (g.R.Row.columns c.args.row))

pub loop-k-init : goal.loop-k-init
loop-k-init g c = going_none (g.met.R.Row.wide c.args.row ∙ sym c.WIDTH-width.ensures) c.if-place-area.false

pub returns-in_err-found : goal.returns-in_err-found
returns-in_err-found g c =
    let l = c.loop-k in
    never _ l.at _ c.in_err-found.ensures c.if-area-gt-MOST_BYTES.false l.invariant.within

pub put-requires : goal.put-requires
put-requires g c =
    let l = c.loop-k in
    let fits = row_fits c.WIDTH-width.result l.k c.args.rows.now (rows_below c.loop-k-test.true (ap (λ (k : ℕ). k / c.WIDTH-width.result) (omega arith))) in
    record {
      wide = row_part c.WIDTH-width.result l.k l.rows (omega (arith, fits, l.invariant.keeps)) ∙ c.WIDTH-width.ensures;
      inside = found_inside _ l.at _ (rw c.in-Found.is at c.in_ok-found.ensures);
    }

pub loop-k-preserved : goal.loop-k-preserved
loop-k-preserved g c =
    going_more c.loop-k.invariant (rows_below c.loop-k-test.true (ap (λ (k : ℕ). k / c.WIDTH-width.result) (omega arith))) (rw c.in-Found.is at c.in_ok-found.ensures) c.put.ensures

pub returns-in-Stopped : goal.returns-in-Stopped
returns-in-Stopped g c =
    lists_given _ _ _ _ c.if-area-gt-MOST_BYTES.false c.if-place-area.false c.loop-k.invariant.wide
    (going_stop c.loop-k.invariant (rows_below c.loop-k-test.true (ap (λ (k : ℕ). k / c.WIDTH-width.result) (omega arith))) (rw c.in-Stopped.is at c.in_ok-found.ensures))

pub returns : goal.returns
returns g c =
    lists_given _ _ _ _ c.if-area-gt-MOST_BYTES.false c.if-place-area.false c.loop-k.invariant.wide
    (going_full c.loop-k.invariant (ap (λ (k : ℕ). k / c.WIDTH-width.result) (omega arith)) c.loop-k.auto.k-end c.loop-k-test.false)
