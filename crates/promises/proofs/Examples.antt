-- The worked examples hold: both sides are computed.
-- Assumes nothing.
use mathlib.Core.Path.{refl}
use Rattle.facts.specs.Over.{over}
use Rattle.facts.specs.Pieces.{pieces_in, pieces}
use Rattle.facts.specs.Ranges.{within, lookup}
use Rattle.rfc.specs.Numbers.{too_long, past_end, no_code, too_much, no_room, checked}
use Rattle.rfc.specs.Walk.{extend, further_in, further, joined, behind, walk, room_for, step_checks, step}
use Rattle.rfc.specs.Kinds.{kinds, kind_of, sizes, size_of}
use Rattle.rfc.specs.Values.{contents, value_of, rules, rule_for, wrong_length, length_mode, not_text, unclear, read_checks, read}
use Rattle.rfc.specs.Writing.{parts_of, encode, write_checks, answer_to, room_left, room_after}
use Rattle.rfc.specs.Routes.{significant, route_bytes, routes_bytes, too_wide, write_routes}
use Rattle.promises.specs.Examples.{WorkedExamples, does, says}

pub worked_examples : WorkedExamples
unfolding over pieces_in pieces within lookup too_long past_end no_code too_much no_room checked extend further_in further joined behind walk room_for step_checks step kinds kind_of sizes size_of contents value_of rules rule_for wrong_length length_mode not_text unclear read_checks read parts_of encode write_checks answer_to room_left room_after significant route_bytes routes_bytes too_wide write_routes does says
worked_examples = refl
