-- `put_option` meets its contract: the code, its kind, the parts and the value.
-- Assumes nothing.
use Rattle.pen.proofs.Added.{both}
use Rattle.lines.specs.Listing.{option_line}
use Rattle.lines.proofs.put_option.Goals as goal

pub returns : goal.returns
unfolding option_line
returns c =
    rw (← c.kind_of.ensures, ← c.number.ensures)
    (both (both (both (both (both c.named.ensures c.named-2.ensures) c.named-3.ensures) c.word.ensures) c.spaced.ensures) c.word-2.ensures)
