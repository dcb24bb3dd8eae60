-- `put_row` meets its contract: a row that is not refused is put not at all, in its parts, or as one.
-- Assumes nothing.
use native.Mathlib.Omega.{arith}
use Rattle.options.proofs.Row.{passed_inside, passed_byte, passed_short, length_slice, passed_fits, passed_takes, passed_parts, passed_part, passed_none}
use Rattle.options.proofs.rows.put_row.Goals as goal

pub returns-then-row-eq0 : goal.returns-then-row-eq0
returns-then-row-eq0 c = passed_none _ _ _ _ _ _ c.requires.passes (omega arith) c.if-row-eq0.true

pub overflow_add-value : goal.overflow_add-value
overflow_add-value c = omega (arith, passed_inside _ _ _ _ _ _ c.requires.passes)

pub slice_bounds-value-end : goal.slice_bounds-value-end
slice_bounds-value-end c = omega (arith, passed_inside _ _ _ _ _ _ c.requires.passes)

pub overflow_cast-row : goal.overflow_cast-row
overflow_cast-row c = omega (arith, passed_byte _ _ _ _ _ _ c.requires.passes)

pub put_parts-requires : goal.put_parts-requires
put_parts-requires c = passed_fits _ _ _ _ _ _ c.requires.passes

pub overflow_cast-row-then-row-gt-MOST_PART : goal.overflow_cast-row-then-row-gt-MOST_PART
overflow_cast-row-then-row-gt-MOST_PART c = omega (arith, passed_short _ _ _ _ _ _ c.requires.passes)

pub returns-then-row-gt-MOST_PART : goal.returns-then-row-gt-MOST_PART
returns-then-row-gt-MOST_PART c =
    passed_parts _ _ _ _ _ _ c.requires.passes (omega (arith, c.size_in_parts.ensures)) c.put_parts.ensures

pub overflow_cast-row-2 : goal.overflow_cast-row-2
overflow_cast-row-2 c = omega (arith, passed_byte _ _ _ _ _ _ c.requires.passes)

pub put_part-requires : goal.put_part-requires
put_part-requires c =
    let long = length_slice _ _ _ _ _ _ c.requires.passes in
    (omega (arith, long, passed_takes _ _ _ _ _ _ c.requires.passes), omega (arith, long))

pub returns : goal.returns
returns c =
    passed_part _ _ _ _ _ _ c.requires.passes (omega arith) (omega arith) c.if-row-gt-MOST_PART.false c.put_part.ensures
