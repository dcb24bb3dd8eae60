-- The rules for a value's length, as the code names them.
-- Assumes nothing.
use Rattle.rfc.specs.Values as rfc
use Rattle.values.specs.declared.rules.Rule.{Rule}
use Rattle.values.specs.declared.rules.Rule.TheVariants.{Multiple, Exactly, AtLeast, OneOrMore}

abbrev pub rule_says : Rule → rfc.Rule
rule_says Multiple = rfc.multiple
rule_says Exactly = rfc.exactly
rule_says AtLeast = rfc.at_least
rule_says OneOrMore = rfc.one_or_more
