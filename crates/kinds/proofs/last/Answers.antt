-- `last` meets its contract: the ranges that the check does not find alone.
-- Assumes nothing.
use mathlib.Core.Path.{refl}
use native.Mathlib.Nat.{le_of_suc-le-suc}
use Rattle.facts.specs.Ranges.{lookup, within}
use Rattle.rfc.specs.Kinds.{kind_of, kinds}
use Rattle.rfc.proofs.Codes.{kind_from_to}
use borrow.Author.Rules.{rules}
use Rattle.kinds.proofs.last.Goals as goal

pub returns-then-code-le105 : goal.returns-then-code-le105
unfolding kind_of kinds lookup within
returns-then-code-le105 c = search (rules, kind_from_to)

pub returns-then-code-le113 : goal.returns-then-code-le113
unfolding kind_of kinds lookup within
returns-then-code-le113 c = search (rules, kind_from_to)

pub returns-then-code-le117 : goal.returns-then-code-le117
unfolding kind_of kinds lookup within
returns-then-code-le117 c = search (rules, kind_from_to)

pub returns-then-code-le149 : goal.returns-then-code-le149
unfolding kind_of kinds lookup within
returns-then-code-le149 c = search (rules, kind_from_to)

pub returns-then-code-le151 : goal.returns-then-code-le151
unfolding kind_of kinds lookup within
returns-then-code-le151 c = search (rules, kind_from_to)

pub returns-then-code-le155 : goal.returns-then-code-le155
unfolding kind_of kinds lookup within
returns-then-code-le155 c = search (rules, kind_from_to)

pub returns : goal.returns
unfolding kind_of kinds lookup within
returns c = search (rules, kind_from_to 156 255 0 refl, le_of_suc-le-suc)
