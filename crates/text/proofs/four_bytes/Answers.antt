-- `four_bytes` meets its contract: enough bytes are left, the first two begin a character, and the others follow.
-- Assumes nothing.
use Rattle.std.proofs.Common.{arith}
use Rattle.text.proofs.Leads.{four_cut, four_on, four_off}
use Rattle.text.proofs.Widths.{one_there, on, off}
use Rattle.text.proofs.four_bytes.Goals as goal
use Rattle.text.proofs.four_bytes.Goals.{then-rest-lt4-via-then-rest-lt4, then-rest-lt4-via-else-rest-lt4+then-not-begins_four, then-rest-lt4-via-else-rest-lt4+else-not-begins_four+then-not-between, then-rest-lt4-via-else-rest-lt4+else-not-begins_four+else-not-between+then-not-between-2}

pub returns-then-rest-lt4 : goal.returns-then-rest-lt4
returns-then-rest-lt4 c =
    elim c.then-rest-lt4.branch [
      | then-rest-lt4-via-then-rest-lt4 w ↦ four_cut _ c.requires (omega arith)
      | then-rest-lt4-via-else-rest-lt4+then-not-begins_four w ↦
          four_off _ c.requires (omega arith) w.begins_four.ensures w.if-not-begins_four.true
      | then-rest-lt4-via-else-rest-lt4+else-not-begins_four+then-not-between w ↦
          off {n = 2} (four_on _ c.requires (omega arith) w.begins_four.ensures w.if-not-begins_four.false) (omega arith) w.between.ensures
          w.if-not-between.true
      | then-rest-lt4-via-else-rest-lt4+else-not-begins_four+else-not-between+then-not-between-2 w ↦
          off {n = 3}
          (on {n = 2} (four_on _ c.requires (omega arith) w.begins_four.ensures w.if-not-begins_four.false) (omega arith) w.between.ensures
          w.if-not-between.false)
          (omega arith) w.between-else-not-between.ensures w.if-not-between-2.true
    ]

pub returns : goal.returns
returns c =
    one_there
    (on {n = 3}
    (on {n = 2} (four_on _ c.requires (omega arith) c.begins_four.ensures c.if-not-begins_four.false) (omega arith) c.between.ensures
    c.if-not-between.false)
    (omega arith) c.between-else-not-between.ensures c.if-not-between-2.false)
