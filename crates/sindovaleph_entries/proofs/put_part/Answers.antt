-- `put_part` meets its contract: a law for each case.
-- Assumes nothing.
use mathlib.Core.Path.{◌≡◌, ap, ◌∙◌}
use Prim.Native.Nat.{ℕ, ◌+◌}
use native.Mathlib.Omega.{arith}
use mathlib.Core.List.{List}
use lib.ListN.{get_or, set}
use Rattle.sindovaleph_entries.specs.Filling.{sheet}
use Rattle.sindovaleph_entries.proofs.Filling.{puts_first, puts_counted, puts_further, puts_passed, has_row}
use Rattle.sindovaleph_entries.proofs.put_part.Goals as goal
use Rattle.sindovaleph_entries.proofs.put_part.Goals.{then-codes-rows, else-codes-rows}

pub extend_row-requires : goal.extend_row-requires
extend_row-requires c = (has_row c.requires (λ z. omega arith) c.if-mark-rows.true).0

pub returns-then-mark-rows : goal.returns-then-mark-rows
returns-then-mark-rows c =
    let old : get_or c.args.marks.now c.args.part.code 0 ≡ 0 → ⊥ = λ z. omega arith in
    let row = has_row c.requires old c.if-mark-rows.true in
    puts_further _ _ _ _ old _ c.if-mark-rows.true row.1 c.extend_row.ensures

pub returns-else-mark-rows : goal.returns-else-mark-rows
returns-else-mark-rows c = puts_passed _ _ _ _ (λ z. omega arith) c.if-mark-rows.false

pub returns : goal.returns
returns c =
    let a = c.args in
    let part = c.args.part in
    let before = sheet a.marks.now a.rows.now a.codes in
    let new : get_or a.marks.now part.code 0 ≡ 0 = omega arith in
    let there = c.requires.holds.each in
    elim c.if-codes-rows.branch [
      | then-codes-rows w ↦
          puts_first before part.code part.len part.place new (omega arith) w.if-codes-rows.true (w.rows-is ∙ w.put_row.ensures)
      | else-codes-rows w ↦
          ap (λ (r : List ℕ). sheet (set a.marks.now part.code (a.codes + 1)) r (a.codes + 1)) w.rows-is
          ∙ puts_counted before part.code part.len part.place new (omega arith) w.if-codes-rows.false
    ]
