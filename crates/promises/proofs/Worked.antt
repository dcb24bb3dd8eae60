-- The worked examples of docs/READING.md hold: both sides of an equation are computed, and what is none is shown by its numbers.
-- Assumes nothing.
use Rattle.facts.specs.BigEndian.{number_at}
use mathlib.Core.Path.{refl}
use mathlib.Core.List.{[], ◌∷◌, flatten}
use native.Mathlib.Omega.{arith}
use lib.Dec.{lit<, lit≤}
use lib.ListN.{replicate}
use Rattle.facts.specs.Distinct.{without}
use Rattle.facts.specs.Over.{over}
use Rattle.facts.specs.Pieces.{pieces_in, pieces}
use Rattle.facts.specs.Ranges.{within, lookup}
use Rattle.rfc.specs.Numbers.{and_then, too_long, too_short, past_end, no_element, no_code, too_much, no_room, checked, first_refusal}
use Rattle.rfc.specs.Header.{message_checks, magic_right, area, field, hlen_of, spills, chaddr_cut, chaddr_checks, chaddr, until_zero, text_field, sname}
use Rattle.rfc.specs.Walk.{extend, further_in, further, joined, behind, walk, room_for, step_checks, step, join_after, place_after, end}
use Rattle.rfc.specs.Kinds.{kinds, kind_of, sizes, size_of}
use Rattle.rfc.specs.Text.{forms, lead, owes, whole, utf8_from, utf8}
use Rattle.rfc.specs.Values.{numbers_of, width_of, contents, value_of, rules, rule_for, wrong_length, length_mode, u16s, not_text, unclear, read_checks, read, elements, element_at, element, node_of, read_found, read_option}
use Rattle.rfc.specs.Writing.{parts_of, encode, write_checks, answer_to, room_left, room_after, write_slice, write_bytes, into_room, close}
use Rattle.rfc.specs.Typed.{Below, digits_of, part_size, encode_kind, other_kind, odd_pairs, code_checks, value_checks, write_kind, write_value, u16, no_numbers}
use Rattle.rfc.specs.Routes.{significant, route_bytes, routes_bytes, too_wide, write_routes}
use Rattle.rfc.specs.Lists.{Good, encode_all, does, write_all, onward, list_in, listing, at_stop}
use Rattle.rfc.specs.Portions.{behind_code, next_portion, ahead, goes_on, portions_in, portions, is_cut, parts_in, of_code, joined_value}
use Rattle.rfc.specs.Aggregate.{fields_of, options_read, overloads, unclear_overload, overload, names_file, names_sname, read_named, file_read, sname_read, field_checks, aggregate, codes_of, behind_last, option_from, option_of, aggregate_checks, overload_of, find_checks, find, entry, options_from, entries}
use Rattle.rfc.specs.Modes.{values_in, at_continuation, at_end}
use Rattle.rfc.specs.Stream.{Sendable, too_large, frame, handing, frames_in, frames, hand_out, gather, end_size, start_size, receive, is_shut, drain_in, drain, drain_all}
use Rattle.rfc.specs.Strung.{all_checks, all_bytes, strung, write_strung}
use Rattle.rfc.specs.Classless.{masked, as_read, route_in, behind_width, row_checks, route_rows_in, route_rows, all_row_checks, all_routes, read_routes, nth, route_at, route_ahead, route_from}
use Rattle.rfc.specs.Moves.{classes, width_for, barred, pair_route, route_out, pair_out, out_rows, outward, old_form_checks, row_back, back_rows, backward, lent_checks, pairs_checks, move_out, move_back}
use Rattle.promises.specs.Order.{follows}
use Rattle.promises.specs.Worked.{abc, least, OfGeneral, OfNumbers, OfHeader, OfWalk, OfKinds, OfText, OfValues, OfWriting, OfTyped, OfRoutes, OfLists, OfPortions, OfOverload, OfAggregate, OfFrames, OfStream, OfStrung, OfClassless, OfRule, OfMoves}

pub of_general : OfGeneral
unfolding over pieces_in pieces within lookup number_at
of_general = (refl, refl, refl, refl, refl, refl, refl, refl, refl, refl, refl)

pub of_numbers : OfNumbers
unfolding pieces_in pieces within lookup and_then too_long too_short past_end no_element no_code too_much no_room checked first_refusal extend further_in further joined behind walk room_for step_checks step kinds kind_of sizes size_of rules rule_for wrong_length length_mode read_checks read parts_of encode follows
of_numbers = (refl, refl, refl, refl, refl, refl, refl, refl, refl, refl, refl, refl, refl, refl, refl)

pub of_header : OfHeader
unfolding too_long too_short checked message_checks field hlen_of spills chaddr_cut chaddr_checks chaddr until_zero text_field sname magic_right area
of_header = (refl, refl, refl, refl, refl, refl, refl, refl, refl, refl, refl, refl, refl, refl, refl, refl, refl, refl, refl, refl)

pub of_walk : OfWalk
unfolding over too_long past_end checked extend further_in further joined behind walk room_for step_checks step join_after place_after
of_walk = (refl, refl, refl, refl, refl, refl, refl, refl, refl, refl, refl, refl, refl, refl, refl, refl)

pub of_kinds : OfKinds
unfolding within lookup kinds kind_of sizes size_of
of_kinds = (refl, refl, refl, refl, refl, refl)

pub of_text : OfText
unfolding within lookup forms lead owes whole utf8_from utf8
of_text = (refl, refl, refl, refl, refl, refl)

pub of_values : OfValues
unfolding pieces_in pieces within lookup and_then too_long past_end no_element no_code checked extend further_in further joined behind walk room_for step_checks step kinds kind_of sizes size_of forms lead owes whole utf8_from utf8 numbers_of width_of contents value_of rules rule_for wrong_length length_mode not_text unclear read_checks read elements element_at element node_of read_found read_option
of_values = (refl, refl, refl, refl, refl, refl, refl, refl, refl, refl, refl, refl, refl, refl, refl, refl, u16s, refl, refl, refl, refl, refl, refl, refl, refl, refl, refl, refl, refl, refl, refl, refl, refl)

pub of_writing : OfWriting
unfolding over pieces_in pieces too_long past_end no_code too_much no_room checked parts_of encode write_checks answer_to room_left room_after write_slice write_bytes into_room close
of_writing = (refl, refl, refl, refl, refl, refl, refl, refl, refl, refl, refl)

-- a list of codes, each below 256
of_below : Below 256 (1 ∷ 3 ∷ 6 ∷ [])
of_below = (lit< tt, (lit< tt, (lit< tt, tt)))

pub of_typed : OfTyped
unfolding pieces_in pieces within lookup too_long past_end no_code too_much no_room checked kinds kind_of sizes size_of width_of not_text parts_of encode write_checks answer_to digits_of part_size encode_kind other_kind odd_pairs code_checks value_checks write_kind write_value flatten
of_typed =
    (refl, refl, refl, refl, refl, refl, refl, refl, u16 1500 (lit< tt), lit< tt, of_below, no_numbers, (λ e. omega arith))

pub of_routes : OfRoutes
unfolding pieces_in pieces parts_of encode significant route_bytes routes_bytes too_wide write_routes
of_routes = (refl, refl, refl, refl)

-- an option of code 12 with three bytes
abc_good : Good abc
abc_good = record { low = omega arith; high = omega arith; some = omega arith; most = omega arith }

pub of_lists : OfLists
unfolding over pieces_in pieces and_then too_long past_end no_code too_much no_room checked extend further_in further joined behind walk room_for step_checks step parts_of encode write_checks answer_to room_left room_after write_bytes into_room close encode_all does write_all onward list_in listing
of_lists = ((abc_good, tt, tt), (lit< tt, (lit< tt, tt)), refl, refl, refl, at_stop end 6)

pub of_portions : OfPortions
unfolding flatten behind_code next_portion ahead goes_on portions_in portions is_cut parts_in of_code joined_value
of_portions = (refl, refl, refl, refl, refl, refl, refl, refl, refl, refl, refl, refl, refl, refl, refl, refl, refl, refl)

pub of_overload : OfOverload
unfolding flatten within first_refusal magic_right behind_code next_portion ahead goes_on portions_in portions is_cut parts_in of_code joined_value fields_of options_read overloads unclear_overload overload names_file names_sname read_named file_read sname_read field_checks aggregate
of_overload = (refl, refl, refl, refl, refl, refl, refl, refl, refl, refl, refl, refl, refl, refl, refl, refl, refl, refl, refl, refl, refl, refl)

pub of_aggregate : OfAggregate
unfolding flatten without within too_long too_short no_code checked message_checks magic_right room_for behind_code next_portion ahead goes_on portions_in portions is_cut parts_in of_code joined_value fields_of options_read overloads unclear_overload overload names_file names_sname read_named file_read sname_read field_checks aggregate codes_of behind_last option_from option_of aggregate_checks overload_of find_checks find entry options_from entries values_in
of_aggregate = (refl, refl, refl, refl, refl, refl, refl, refl, refl, refl, refl, refl, refl, refl, refl, refl, at_continuation 3, at_end 6)

pub of_frames : OfFrames
unfolding over flatten too_short checked too_large frame handing frames_in frames
of_frames = (refl, refl, refl, (sendable, (sendable, tt)), refl, refl, refl, refl, refl, refl, refl, refl, refl, refl, refl, refl, refl)
  where
    sendable : Sendable (replicate 240 9) least
    sendable = record { least = lit≤ tt; most = lit≤ tt; held = lit≤ tt }

pub of_stream : OfStream
unfolding over too_short checked too_large frame handing hand_out gather end_size start_size receive is_shut drain_in drain drain_all
of_stream = (refl, refl, refl, refl, refl, refl, refl, refl, refl, refl, refl, refl, refl, refl, refl, refl, refl, refl, (lit< tt, lit≤ tt))

pub of_strung : OfStrung
unfolding pieces_in pieces checked first_refusal parts_of encode all_checks all_bytes strung write_strung
of_strung = (refl, refl, refl, refl, refl)

pub of_classless : OfClassless
unfolding and_then too_long past_end checked first_refusal significant masked as_read route_in behind_width row_checks route_rows_in route_rows all_row_checks all_routes read_routes nth route_at route_ahead route_from
of_classless = (
  refl,
  refl,
  (lit≤ tt, lit< tt, lit< tt),
  refl,
  refl,
  refl,
  refl,
  refl,
  refl,
  refl,
  refl,
  refl,
  refl,
  refl,
  refl,
  refl,
  refl,
  refl,
  refl,
  refl,
  refl,
)

pub of_rule : OfRule
unfolding within lookup masked classes width_for barred
of_rule = (refl, refl, refl, refl, refl, refl, refl, refl, refl, refl, refl, refl, refl, refl, refl, refl)

pub of_moves : OfMoves
unfolding over pieces_in pieces within lookup too_long past_end too_much no_room checked first_refusal sizes size_of parts_of encode write_checks answer_to room_left room_after part_size significant route_bytes masked route_in behind_width row_checks route_rows_in route_rows all_checks all_bytes strung write_strung classes width_for barred pair_route route_out pair_out out_rows outward old_form_checks row_back back_rows backward lent_checks pairs_checks move_out move_back
of_moves = (refl, refl, refl, refl, refl, refl, refl, refl, refl, refl, refl, refl, refl, refl, refl, refl, refl, refl, refl, refl, refl, refl, refl, refl, refl, refl, refl, refl)
