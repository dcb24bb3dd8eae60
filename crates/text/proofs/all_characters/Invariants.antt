-- `all_characters` meets its contract: a character that is passed does not change whether the text is right.
-- Assumes nothing.
use Rattle.std.proofs.Common.{◌≡◌, length}
use Rattle.rfc.specs.Text.{utf8}
use Rattle.text.proofs.all_characters.Given as goal

abbrev pub invariant-loop-rest : goal.invariant-loop-rest
invariant-loop-rest l = utf8 l.text ≡ utf8 l.rest

abbrev pub decreases-loop-rest : goal.decreases-loop-rest
decreases-loop-rest l = length l.rest
