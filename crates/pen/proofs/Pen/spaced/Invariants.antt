-- `spaced` meets its contract: so many of the bytes have been added.
-- Assumes nothing.
use Rattle.std.proofs.Common.{take}
use Rattle.pen.specs.Texts.{spaced}
use Rattle.pen.specs.Added.{Added}
use Rattle.pen.proofs.Pen.spaced.Given as goal

abbrev pub invariant-loop-byte : goal.invariant-loop-byte
invariant-loop-byte l = Added l.initial.self l.self (spaced (take l.byte-index l.bytes))
