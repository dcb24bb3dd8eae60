-- `all_characters` meets its contract: a character that is passed does not change whether the text is right.
-- Assumes nothing.
use Rattle.std.proofs.Common.{arith, sym, ◌∙◌}
use Rattle.std.proofs.lemmas.Bool.Decides.{nat_tests}
use Rattle.rfc.proofs.Text.{ended}
use Rattle.text.proofs.all_characters.Goals as goal

pub returns : goal.returns
returns c = sym (c.loop-rest.invariant ∙ ended c.loop-rest.rest.now 0 (grind (arith, nat_tests)))
