-- `write_yes_no` meets its contract: the byte is 1 for yes and 0 for no.
-- Assumes nothing.
use mathlib.Core.Path.{refl, ap, ◌∙◌}
use mathlib.Core.List.{[], ◌∷◌}
use Rattle.rfc.specs.Values.{truth}
use Rattle.rfc.proofs.Values.{yes_no}
use Rattle.typed.proofs.Answers.{yes_byte, holds, scalar_as}
use Rattle.typed.proofs.write_yes_no.Goals as goal

pub write_as-requires : goal.write_as-requires
write_as-requires c = scalar_as yes_no refl

pub returns : goal.returns
returns c = holds 5 _ _ _ _ (truth _) (ap (λ b. b ∷ []) c.from.ensures ∙ yes_byte _) c.write_as.ensures
