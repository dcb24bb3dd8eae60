-- Strict reading of lists, texts and raw bytes, by the laws of `rfc`; that the home agents may be none is computed.
-- Assumes nothing.
use mathlib.Core.Path.{refl}
use Rattle.facts.specs.Pieces.{pieces_in, pieces}
use Rattle.facts.specs.Ranges.{within, lookup}
use Rattle.rfc.specs.Numbers.{too_long, no_code, checked}
use Rattle.rfc.specs.Kinds.{kinds, kind_of, sizes, size_of}
use Rattle.rfc.specs.Values.{numbers_of, width_of, contents, value_of, rules, rule_for, wrong_length, length_mode, not_text, unclear, read_checks, read}
use Rattle.rfc.proofs.Strict as rfc
use Rattle.promises.specs.Strict.{EmptyRefused, NoHomeAgents, ElseAsPlain, RawAsPlain}

pub empty_refused : EmptyRefused
empty_refused code k other = rfc.empty_refused code k other

pub no_home_agents : NoHomeAgents
unfolding pieces_in pieces within lookup too_long no_code checked kinds kind_of sizes size_of numbers_of width_of contents value_of rules rule_for wrong_length length_mode not_text unclear read_checks read
no_home_agents = refl

pub else_as_plain : ElseAsPlain
else_as_plain code v k some = rfc.else_as_plain code v k some

pub raw_as_plain : RawAsPlain
raw_as_plain code v e = rfc.raw_as_plain code v e
