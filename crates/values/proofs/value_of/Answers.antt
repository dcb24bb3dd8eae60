-- `value_of` meets its contract: the kinds that the check does not find alone, which are lists and numbers with a sign.
-- Assumes nothing.
use mathlib.Core.Path.{refl, ◌∙◌}
use native.Mathlib.Omega.{arith}
use mir.Syntax.{w32}
use mir.Facts.{to_z-of_z}
use Rattle.std.proofs.lemmas.Grind.{common_steps}
use Rattle.facts.specs.Ranges.{lookup, within}
use Rattle.rfc.specs.Kinds.{size_of, sizes}
use Rattle.rfc.specs.Values.{wrong_length, rule_for, rules, value_of, contents, elements}
use Rattle.rfc.proofs.Values.{addresses, pairs, u16s, codes}
use Rattle.values.proofs.Cases.{listed}
use Rattle.values.proofs.value_of.Goals as goal

pub returns-in-Addresses : goal.returns-in-Addresses
returns-in-Addresses c = listed c.requires c.in-Addresses.is addresses _ refl c.count.ensures tt

pub returns-in-Pairs : goal.returns-in-Pairs
returns-in-Pairs c = listed c.requires c.in-Pairs.is pairs _ refl c.count-in-Pairs.ensures tt

pub returns-in-U16s : goal.returns-in-U16s
returns-in-U16s c = listed c.requires c.in-U16s.is u16s _ refl c.count-in-U16s.ensures tt

pub returns-in-I32 : goal.returns-in-I32
unfolding wrong_length rule_for rules lookup within size_of sizes value_of contents elements
returns-in-I32 c =
    let number = to_z-of_z {w = w32} (record { sfits = c.be_i32.type_inv }) ∙ c.be_i32.ensures in
    grind (arith, common_steps)

pub returns-in-Codes : goal.returns-in-Codes
returns-in-Codes c = listed c.requires c.in-Codes.is codes _ refl c.count-in-Codes.ensures tt
