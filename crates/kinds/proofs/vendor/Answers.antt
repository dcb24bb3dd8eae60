-- `vendor` meets its contract: the ranges that the check does not find alone.
-- Assumes nothing.
use mathlib.Core.Path.{refl}
use Rattle.facts.specs.Ranges.{lookup, within}
use Rattle.rfc.specs.Kinds.{kind_of, kinds}
use Rattle.rfc.proofs.Codes.{kind_from_to}
use borrow.Author.Rules.{rules}
use Rattle.kinds.proofs.vendor.Goals as goal

pub returns-then-code-le0 : goal.returns-then-code-le0
unfolding kind_of kinds lookup within
returns-then-code-le0 c = search (rules, kind_from_to 0 0 0 refl)
