-- `portion_at` meets its contract: behind the Pads the same stands first.
-- Assumes nothing.
use mathlib.Core.Path.{◌∙◌, sym, ap}
use Rattle.rfc.proofs.Portions.{none-at}
use Rattle.portions.specs.Told.{next_of}
use Rattle.portions.proofs.portion_at.Goals as goal

pub returns-then-i-bytes : goal.returns-then-i-bytes
returns-then-i-bytes c = sym (ap next_of (c.skip_pads-i.ensures.same ∙ none-at _ _ c.if-i-bytes.true))
