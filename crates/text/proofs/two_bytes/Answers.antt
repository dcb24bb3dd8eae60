-- `two_bytes` meets its contract: enough bytes are left, and each of them is asked whether it may follow.
-- Assumes nothing.
use Rattle.std.proofs.Common.{arith}
use Rattle.text.proofs.Widths.{one_there, asked, cut, on, off}
use Rattle.text.proofs.two_bytes.Goals as goal
use Rattle.text.proofs.two_bytes.Goals.{then-rest-lt2-via-then-rest-lt2, then-rest-lt2-via-else-rest-lt2+then-not-between}

pub returns-then-rest-lt2 : goal.returns-then-rest-lt2
returns-then-rest-lt2 c =
    elim c.then-rest-lt2.branch [
      | then-rest-lt2-via-then-rest-lt2 w ↦ cut c.requires (omega arith)
      | then-rest-lt2-via-else-rest-lt2+then-not-between w ↦ off (asked c.requires) (omega arith) w.between.ensures w.if-not-between.true
    ]

pub returns : goal.returns
returns c = one_there (on (asked c.requires) (omega arith) c.between.ensures c.if-not-between.false)
