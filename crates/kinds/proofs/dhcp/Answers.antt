-- `dhcp` meets its contract: the ranges that the check does not find alone.
-- Assumes nothing.
use Rattle.facts.specs.Ranges.{lookup, within}
use Rattle.rfc.specs.Kinds.{kind_of, kinds}
use Rattle.rfc.proofs.Codes.{kind_from_to}
use borrow.Author.Rules.{rules}
use Rattle.kinds.proofs.dhcp.Goals as goal

pub returns : goal.returns
unfolding kind_of kinds lookup within
returns c = search (rules, kind_from_to)
