-- The worked examples of rows and of the listings hold: both sides of an equation are computed, and what a record says too.
-- Assumes nothing.
use mathlib.Core.Path.{refl}
use mathlib.Core.List.{flatten}
use Rattle.facts.specs.Distinct.{without}
use Rattle.facts.specs.Over.{over}
use Rattle.facts.specs.Pieces.{pieces_in, pieces}
use Rattle.facts.specs.Ranges.{within, lookup}
use Rattle.rfc.specs.Numbers.{and_then, too_long, too_short, past_end, no_code, too_much, no_room, checked}
use Rattle.rfc.specs.Header.{message_checks, hlen_of, spills, chaddr_cut, chaddr_checks, chaddr, magic_right, area}
use Rattle.rfc.specs.Walk.{extend, further_in, further, joined, behind, walk, room_for, step_checks, step}
use Rattle.rfc.specs.Kinds.{kinds, kind_of, sizes, size_of}
use Rattle.rfc.specs.Values.{contents, width_of, value_of, rules, rule_for, wrong_length, length_mode, not_text, unclear, read_checks, read, elements}
use Rattle.rfc.specs.Writing.{parts_of, encode, write_checks, answer_to, room_left, room_after}
use Rattle.rfc.specs.Portions.{behind_code, next_portion, ahead, goes_on, portions_in, portions, is_cut, parts_in, of_code, joined_value}
use Rattle.rfc.specs.Aggregate.{fields_of, options_read, overloads, unclear_overload, overload, names_file, names_sname, read_named, file_read, sname_read}
use Rattle.rfc.specs.Aggregate.{field_checks, aggregate, codes_of, behind_last, option_from, option_of, aggregate_checks, overload_of, entry, options_from, entries}
use Rattle.options.specs.Rows.{outside, not_code, write_row, or_stuck, rows_from, write_rows}
use Rattle.sindovaleph_rows.specs.Listing.{read_unjoined, in_front, list_in, list}
use Rattle.sindovaleph_entries.specs.Rows.{entry_row, entry_rows}
use Rattle.pen.specs.Texts.{decimal_in, decimal, spaced}
use Rattle.lines.specs.Listing.{message_line, refused_line, spill_text, address_text, chaddr_line, option_line, stop_line, onward, lines_in, area_lines, listing}
use Rattle.joined_lines.specs.Joined.{fields_line, codes_line, in_turn, entries_in, fields_lines, joined_lines, joined_listing}
use Rattle.calls.specs.Shown.{OfRowsWritten, OfRowsListed, OfEntries, OfListing, OfJoined}

pub of_rows_written : OfRowsWritten
unfolding over pieces_in pieces too_long past_end no_code too_much no_room checked parts_of encode write_checks answer_to room_left room_after outside not_code write_row or_stuck rows_from write_rows
of_rows_written = (
  refl,
  refl,
  refl,
  refl,
  refl,
  refl,
  refl,
  refl,
  refl,
  refl,
  refl,
  record { tells = refl; left = refl },
  refl,
  record { told = refl; left = refl },
)

pub of_rows_listed : OfRowsListed
unfolding over pieces_in pieces within lookup and_then too_long past_end no_code checked extend further_in further joined behind walk room_for step_checks kinds kind_of sizes size_of width_of contents value_of rules rule_for wrong_length length_mode not_text unclear read_checks read elements read_unjoined in_front list_in list
of_rows_listed =
    (refl, refl, refl, refl, refl, refl, refl, refl, refl, refl, refl, refl, refl, refl, refl, refl, record { told = refl; kept = refl })

pub of_entries : OfEntries
unfolding over flatten within lookup without too_long too_short checked message_checks magic_right area behind_code next_portion ahead goes_on portions_in portions is_cut parts_in of_code joined_value fields_of options_read overloads unclear_overload overload names_file names_sname read_named file_read sname_read field_checks aggregate codes_of behind_last option_from aggregate_checks options_from entries entry_row entry_rows
of_entries = (refl, refl, refl, refl, refl, record { told = refl; kept = refl })

pub of_listing : OfListing
unfolding within lookup too_long too_short past_end checked message_checks hlen_of spills chaddr_cut chaddr_checks chaddr magic_right area extend further_in further joined behind walk room_for step_checks step kinds kind_of decimal_in decimal spaced message_line refused_line spill_text address_text chaddr_line option_line stop_line onward lines_in area_lines listing
of_listing =
    (refl, refl, refl, refl, refl, refl, refl, refl, refl, refl, refl, refl, refl, refl, refl, refl, refl, refl, refl, refl, refl)

pub of_joined : OfJoined
unfolding flatten within lookup without too_long too_short checked message_checks magic_right area room_for kinds kind_of behind_code next_portion ahead goes_on portions_in portions is_cut parts_in of_code joined_value fields_of options_read overloads unclear_overload overload names_file names_sname read_named file_read sname_read field_checks aggregate codes_of behind_last option_from option_of aggregate_checks overload_of entry decimal_in decimal spaced refused_line option_line fields_line codes_line in_turn entries_in fields_lines joined_lines joined_listing
of_joined = (refl, refl, refl, refl, refl, refl, refl, refl, refl, refl, refl, refl)
