-- `decimal` meets its contract: a digit, or the digits of the number's tenth and then the last one.
-- Assumes nothing.
use Rattle.std.proofs.Common.{arith}
use Rattle.pen.proofs.Added.{one, both, renamed}
use Rattle.pen.proofs.Texts.{one_digit, more_digits}
use Rattle.pen.proofs.Pen.+decimal.Goals as goal
use Rattle.pen.proofs.Pen.+decimal.Goals.{then-number-ge10, else-number-ge10}

pub returns : goal.returns
returns t c =
    elim c.if-number-ge10.branch [
      | then-number-ge10 w ↦ renamed (both w.decimal.ensures (rw w.self-is at (one c.put.ensures))) (more_digits c.args.number (omega arith) (omega arith))
      | else-number-ge10 w ↦ renamed (rw w.self-is at (one c.put.ensures)) (one_digit c.args.number (omega arith))
    ]
