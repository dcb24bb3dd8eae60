-- `join_parts` meets its contract: after each turn some parts are joined (`Joined`), and the next one fits.
-- Assumes nothing.
use native.Mathlib.Omega.{arith}
use Rattle.borrowed.proofs.Joining.{joined_none, part_fits, joined_empty, joined_more}
use Rattle.borrowed.proofs.parts.join_parts.Goals as goal

pub loop-i-init : goal.loop-i-init
loop-i-init c = joined_none c.requires

pub bounds-area-i : goal.bounds-area-i
bounds-area-i c = omega (arith, part_fits c.loop-i.invariant c.loop-i-test.true)

pub overflow_add-i : goal.overflow_add-i
overflow_add-i c = omega (arith, part_fits c.loop-i.invariant c.loop-i-test.true)

pub slice_bounds-write_slice-end : goal.slice_bounds-write_slice-end
slice_bounds-write_slice-end c = omega (arith, part_fits c.loop-i.invariant c.loop-i-test.true)

pub slice_bounds-write_slice-end-then-n-ne0 : goal.slice_bounds-write_slice-end-then-n-ne0
slice_bounds-write_slice-end-then-n-ne0 c = omega (arith, part_fits c.loop-i.invariant c.loop-i-test.true)

pub loop-i-preserved-then-n-ne0 : goal.loop-i-preserved-then-n-ne0
loop-i-preserved-then-n-ne0 c = joined_more c.loop-i.invariant c.loop-i-test.true c.write_slice.ensures

pub loop-i-preserved : goal.loop-i-preserved
loop-i-preserved c = joined_empty c.loop-i.invariant c.loop-i-test.true c.if-n-ne0.false
