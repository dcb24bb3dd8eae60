-- `any_high` meets its contract: the answer so far is whether one of the bytes so far is high.
-- Assumes nothing.
use Rattle.std.proofs.Common.{◌≡◌, take}
use Rattle.text.specs.Ascii.{any_high}
use Rattle.text.proofs.any_high.Given as goal

abbrev pub invariant-loop-b : goal.invariant-loop-b
invariant-loop-b l = l.high ≡ any_high (take l.b-index l.bytes)
