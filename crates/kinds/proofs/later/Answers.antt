-- `later` meets its contract: the ranges that the check does not find alone.
-- Assumes nothing.
use Rattle.facts.specs.Ranges.{lookup, within}
use Rattle.rfc.specs.Kinds.{kind_of, kinds}
use Rattle.rfc.proofs.Codes.{kind_from_to}
use borrow.Author.Rules.{rules}
use Rattle.kinds.proofs.later.Goals as goal

pub returns-then-code-le79 : goal.returns-then-code-le79
unfolding kind_of kinds lookup within
returns-then-code-le79 c = search (rules, kind_from_to)

pub returns-then-code-le88 : goal.returns-then-code-le88
unfolding kind_of kinds lookup within
returns-then-code-le88 c = search (rules, kind_from_to)

pub returns-then-code-le90 : goal.returns-then-code-le90
unfolding kind_of kinds lookup within
returns-then-code-le90 c = search (rules, kind_from_to)

pub returns-then-code-le99 : goal.returns-then-code-le99
unfolding kind_of kinds lookup within
returns-then-code-le99 c = search (rules, kind_from_to)
