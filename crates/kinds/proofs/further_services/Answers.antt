-- `further_services` meets its contract: the ranges that the check does not find alone.
-- Assumes nothing.
use Rattle.facts.specs.Ranges.{lookup, within}
use Rattle.rfc.specs.Kinds.{kind_of, kinds}
use Rattle.rfc.proofs.Codes.{kind_from_to}
use borrow.Author.Rules.{rules}
use Rattle.kinds.proofs.further_services.Goals as goal

pub returns-then-code-le63 : goal.returns-then-code-le63
unfolding kind_of kinds lookup within
returns-then-code-le63 c = search (rules, kind_from_to)

pub returns-then-code-le67 : goal.returns-then-code-le67
unfolding kind_of kinds lookup within
returns-then-code-le67 c = search (rules, kind_from_to)

pub returns : goal.returns
unfolding kind_of kinds lookup within
returns c = search (rules, kind_from_to)
