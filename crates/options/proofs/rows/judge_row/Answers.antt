-- `judge_row` meets its contract: a law of `write_row` for each return.
-- Assumes nothing.
use mathlib.Core.Path.{refl, sym}
use Prim.Native.Nat.{◌+◌}
use native.Mathlib.Omega.{arith}
use Rattle.std.proofs.Common.{Ok, inl, inr}
use Rattle.options.proofs.Row.{row_4, row_pad, row_above, row_7, row_ends}
use Rattle.options.proofs.rows.judge_row.Goals as goal
use Rattle.options.proofs.rows.judge_row.Goals.{then-row-values-via-then-row-values, then-row-values-via-else-row-values+then-row-values-2}

pub returns-then-row-values : goal.returns-then-row-values
returns-then-row-values c =
    elim c.then-row-values.branch [
      | then-row-values-via-then-row-values w ↦ sym (row_4 _ _ _ _ _ _ (omega arith))
      | then-row-values-via-else-row-values+then-row-values-2 w ↦ sym (row_4 _ _ _ _ _ _ (omega arith))
    ]

pub returns-then-row-eq0 : goal.returns-then-row-eq0
returns-then-row-eq0 c =
    elim c.then-row-eq0.either [
      | inl none ↦ sym (row_pad _ _ _ _ _ _ (omega arith) none)
      | inr above ↦ sym (row_above _ _ _ _ _ _ (omega arith) above.1)
    ]

pub returns-then-row-gt-MOST_VALUE : goal.returns-then-row-gt-MOST_VALUE
returns-then-row-gt-MOST_VALUE c = sym (row_7 _ _ _ _ _ _ (omega arith) c.if-row-eq0.false c.if-row-gt254.false c.if-row-gt-MOST_VALUE.true)

pub returns-then-row-gt-MOST_PART : goal.returns-then-row-gt-MOST_PART
returns-then-row-gt-MOST_PART c =
    let at = c.args.at in
    row_ends _ _ _ _ _ _ (omega arith) c.if-row-eq0.false c.if-row-gt254.false c.if-row-gt-MOST_VALUE.false
    c.fitting.result (at + c.size_in_parts-size.result) c.fitting.ensures (omega (arith, c.size_in_parts-size.ensures))

pub returns-then-row-eq0-2 : goal.returns-then-row-eq0-2
returns-then-row-eq0-2 c =
    row_ends _ _ _ _ _ _ (omega arith) c.if-row-eq0.false c.if-row-gt254.false (omega arith) (Ok _) c.args.at
    (refl, c.requires.within) (omega arith)

pub returns : goal.returns
returns c =
    let a = c.args in
    row_ends _ _ _ _ _ _ (omega arith) c.if-row-eq0.false c.if-row-gt254.false (omega arith)
    c.fitting-2.result (a.at + a.row.len + 2) c.fitting-2.ensures (omega arith)
