-- The worked examples of RFC 3396's reading hold: both sides are computed.
-- Assumes nothing.
use mathlib.Core.Path.{refl}
use mathlib.Core.List.{flatten}
use Rattle.facts.specs.Distinct.{without}
use Rattle.facts.specs.Ranges.{within}
use Rattle.rfc.specs.Numbers.{too_long, too_short, no_code, checked}
use Rattle.rfc.specs.Header.{message_checks, magic_right}
use Rattle.rfc.specs.Walk.{room_for}
use Rattle.rfc.specs.Portions.{behind_code, next_portion, ahead, goes_on, portions_in, portions, is_cut, parts_in, of_code, joined_value}
use Rattle.rfc.specs.Aggregate.{fields_of, options_read, overloads, unclear_overload, overload, names_file, names_sname, read_named, file_read, sname_read, field_checks, aggregate, codes_of, behind_last, option_from, option_of, aggregate_checks, overload_of, find_checks, find, entry, options_from, entries}
use Rattle.promises.specs.Overloaded.{PartsApart, FieldsEnd, ReadingsRefused}

pub parts_apart : PartsApart
unfolding flatten within too_long too_short no_code checked message_checks magic_right room_for behind_code next_portion ahead goes_on portions_in portions is_cut parts_in of_code joined_value fields_of options_read overloads unclear_overload overload names_file names_sname read_named file_read sname_read field_checks aggregate behind_last option_from option_of find_checks find without codes_of aggregate_checks overload_of entry options_from entries
parts_apart = (refl, refl, refl, refl, refl, refl, refl, refl, refl)

pub fields_end : FieldsEnd
unfolding flatten within too_long too_short no_code checked message_checks magic_right room_for behind_code next_portion ahead goes_on portions_in portions is_cut parts_in of_code joined_value fields_of options_read overloads unclear_overload overload names_file names_sname read_named file_read sname_read field_checks aggregate behind_last option_from option_of find_checks find codes_of aggregate_checks entry
fields_end = (refl, refl, refl, refl, refl, refl, refl)

pub readings_refused : ReadingsRefused
unfolding flatten within too_long too_short no_code checked message_checks magic_right room_for behind_code next_portion ahead goes_on portions_in portions is_cut parts_in of_code joined_value fields_of options_read overloads unclear_overload overload names_file names_sname read_named file_read sname_read field_checks aggregate behind_last option_from option_of find_checks find
readings_refused = (refl, refl, refl, refl, refl, refl, refl, refl, refl, refl)
