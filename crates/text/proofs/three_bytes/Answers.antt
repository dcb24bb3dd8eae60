-- `three_bytes` meets its contract: enough bytes are left, and each of them is asked whether it may follow.
-- Assumes nothing.
use Rattle.std.proofs.Common.{arith}
use Rattle.text.proofs.Widths.{one_there, asked, cut, on, off}
use Rattle.text.proofs.three_bytes.Goals as goal
use Rattle.text.proofs.three_bytes.Goals.{then-rest-lt3-via-then-rest-lt3, then-rest-lt3-via-else-rest-lt3+then-not-between, then-rest-lt3-via-else-rest-lt3+else-not-between+then-not-between-2}

pub returns-then-rest-lt3 : goal.returns-then-rest-lt3
returns-then-rest-lt3 c =
    elim c.then-rest-lt3.branch [
      | then-rest-lt3-via-then-rest-lt3 w ↦ cut c.requires (omega arith)
      | then-rest-lt3-via-else-rest-lt3+then-not-between w ↦ off (asked c.requires) (omega arith) w.between.ensures w.if-not-between.true
      | then-rest-lt3-via-else-rest-lt3+else-not-between+then-not-between-2 w ↦
          off {n = 2} (on {n = 1} (asked c.requires) (omega arith) w.between.ensures w.if-not-between.false) (omega arith)
          w.between-else-not-between.ensures w.if-not-between-2.true
    ]

pub returns : goal.returns
returns c =
    one_there
    (on {n = 2} (on {n = 1} (asked c.requires) (omega arith) c.between.ensures c.if-not-between.false) (omega arith)
    c.between-else-not-between.ensures c.if-not-between-2.false)
