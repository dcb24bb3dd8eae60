-- `high_rest` meets its contract: the two blocks are all bytes.
-- Assumes nothing.
use Rattle.std.proofs.Common.{◌≡◌, ℕ, ◌-◌, arith, length, length-drop, drop, ap, ◌∙◌}
use Rattle.std.proofs.lemmas.List.{take_all}
use Rattle.text.specs.Ascii.{any_high}
use Rattle.text.proofs.Ascii.{overlapping}
use Rattle.text.proofs.high_rest.Goals as goal

pub returns-then-n-lt16 : goal.returns-then-n-lt16
returns-then-n-lt16 c =
    let rest = c.args.rest.now in
    let at : ℕ = length rest - 8 in
    let second : c.any_high-then-n-lt16.result ≡ any_high (drop at rest) =
    c.any_high-then-n-lt16.ensures ∙ ap any_high (take_all _ (drop at rest) (omega (arith, length-drop at rest))) in
    rw (c.any_high.ensures, second) (overlapping 8 at rest (omega arith))
