-- What gets less from call to call: the number.
-- Assumes nothing.
use Rattle.pen.proofs.Pen.+decimal.Given as goal

abbrev pub decreases-decimal : goal.decreases-decimal
decreases-decimal l = l.number
