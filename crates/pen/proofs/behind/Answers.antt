-- `behind` meets its contract: counting ends above the most bytes of a room.
-- Assumes nothing.
use mathlib.Core.Path.{sym}
use borrow.Author.Rules.{rules}
use Rattle.pen.proofs.Adding.{behind_next, behind-last}
use Rattle.pen.proofs.behind.Goals as goal

pub returns-then-at-gt-MOST_BYTES : goal.returns-then-at-gt-MOST_BYTES
returns-then-at-gt-MOST_BYTES c = sym (behind-last c.args.at (search rules))

pub returns : goal.returns
returns c = sym (behind_next c.args.at (search rules))
