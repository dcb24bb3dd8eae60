-- `word` meets its contract: so much of the word has been added.
-- Assumes nothing.
use Rattle.std.proofs.Common.{take}
use Rattle.pen.specs.Added.{Added}
use Rattle.pen.proofs.Pen.word.Given as goal

abbrev pub invariant-loop-character : goal.invariant-loop-character
invariant-loop-character l = Added l.initial.self l.self (take l.character-index l.word)
