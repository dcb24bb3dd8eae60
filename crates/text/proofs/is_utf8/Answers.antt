-- `is_utf8` meets its contract: the ASCII in front does not change whether the text is right.
-- Assumes nothing.
use Rattle.std.proofs.Common.{length, arith, sym, ◌∙◌, ap}
use Rattle.std.proofs.lemmas.List.{take_all}
use Rattle.rfc.specs.Text.{utf8}
use Rattle.rfc.proofs.Text.{ended}
use Rattle.text.specs.Ascii.{any_high}
use Rattle.text.proofs.Ascii.{in-front}
use Rattle.text.proofs.is_utf8.Goals as goal

pub returns-in-Some : goal.returns-in-Some
returns-in-Some c =
    let front = c.in-Some.ensures.passed in
    c.all_characters.ensures ∙ ap utf8 front.behind ∙ sym (in-front front.at c.args.text.now front.before)

pub returns-in-None : goal.returns-in-None
returns-in-None c =
    let text = c.args.text.now in
    let all = take_all (length text) text (omega arith) in
    sym (in-front (length text) text (ap any_high all ∙ c.in-None.ensures) ∙ ended text (length text) (omega arith))
