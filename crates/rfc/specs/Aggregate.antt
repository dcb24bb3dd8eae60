-- RFC 3396's reading, a mode beside the walk: all parts of one code are joined, wherever they stand in the options field and in the fields
-- that option 52 names (RFC 3396, sections 5 to 7; RFC 2131, section 4.1; RFC 2132, section 9.3; document 02, ticket 1).
-- Assumes nothing.
use Rattle.std.specs.Prelude.{ℕ, Bool, true, false, cond, not, ◌&&◌, ◌||◌, List, [], ◌∷◌, ◌++◌, map, eqb, length, drop, get_or}
use Rattle.facts.specs.Distinct.{without}
use Rattle.facts.specs.Ranges.{within}
use Rattle.rfc.specs.Numbers.{Answer, given, Check, check, checked, no_code}
use Rattle.rfc.specs.Header.{bytes_of, sname_field, file_field, magic_right, area_start, message_checks}
use Rattle.rfc.specs.Walk.{Found, stop, option, out, room_for}
use Rattle.rfc.specs.Portions.{Portion, Portions, whole, portions, is_cut, parts_in, of_code, joined_value}

-- the three fields of a message that may hold options
pub record OptionFields : Type 0 where
  pub options : List ℕ
  pub file : List ℕ
  pub sname : List ℕ

-- all bytes behind the magic, or none, where the magic is another; file and sname are whole, whatever zeros they hold
unfoldable pub fields_of : List ℕ → OptionFields
fields_of message =
    record {
      options = cond (magic_right message) (drop area_start message) [];
      file = bytes_of file_field message;
      sname = bytes_of sname_field message;
    }

-- "option overload" (RFC 2132, section 9.3)
abbrev pub overload_code : ℕ
overload_code = 52

-- the options field, read, and its parts of option 52
unfoldable pub options_read : OptionFields → Portions
options_read f = portions area_start f.options

unfoldable pub overloads : OptionFields → List Portion
overloads f = of_code overload_code (parts_in (options_read f))

-- 16: option 52 of the options field "has more than one part or isn't one byte of 1 to 3"
unfoldable pub unclear_overload : List Portion → Bool
unclear_overload [] = false
unclear_overload (p ∷ []) = not (eqb (length p.value) 1 && within 1 3 (get_or p.value 0 0))
unclear_overload (p ∷ q ∷ ps) = true

-- what option 52 says: "1 (file), 2 (sname) or 3 (both)"; 0 where there is none. (Where it is unclear, 16 comes before anything is read by it)
unfoldable pub overload : OptionFields → ℕ
overload f = get_or (joined_value (overloads f)) 0 0

unfoldable pub names_file : ℕ → Bool
names_file n = eqb n 1 || eqb n 3

unfoldable pub names_sname : ℕ → Bool
names_sname n = eqb n 2 || eqb n 3

-- a field that is named is read, and another has no parts
unfoldable pub read_named : Bool → ℕ → List ℕ → Portions
read_named named at field = cond named (portions at field) (whole [])

unfoldable pub file_read : OptionFields → Portions
file_read f = read_named (names_file (overload f)) file_field.start f.file

unfoldable pub sname_read : OptionFields → Portions
sname_read f = read_named (names_sname (overload f)) sname_field.start f.sname

-- "15 when the options field is cut; 16 ..; 15 when a field that 52 names is cut"
unfoldable pub field_checks : OptionFields → List Check
field_checks f =
    check (is_cut (options_read f)) 15
    ∷ check (unclear_overload (overloads f)) 16
    ∷ check (is_cut (file_read f) || is_cut (sname_read f)) 15
    ∷ []

-- all parts, in the order of RFC 3396, section 5: the options field, then file, then sname
unfoldable pub aggregate : OptionFields → List Portion
aggregate f = parts_in (options_read f) ++ parts_in (file_read f) ++ parts_in (sname_read f)

-- each code once, by first appearance
unfoldable pub codes_of : List Portion → List ℕ
codes_of [] = []
codes_of (p ∷ ps) = p.code ∷ without p.code (codes_of ps)

-- the place behind the last of some parts
unfoldable pub behind_last : Portion → List Portion → ℕ
behind_last p [] = p.place
behind_last p (q ∷ qs) = behind_last q qs

-- the option that the parts of a code are: its value, how many they are, and the place behind the last; without a part there is none
unfoldable pub option_from : ℕ → List Portion → Found
option_from code [] = stop out 0
option_from code (p ∷ ps) = option code (joined_value (p ∷ ps)) (length (p ∷ ps)) (behind_last p ps)

-- what a code is in three fields, with so much room to join in: 5 as in the walk
unfoldable pub option_of : OptionFields → ℕ → ℕ → Answer Found
option_of f code room = room_for room (option_from code (of_code code (aggregate f)))

-- the checks of every reading of a message in this mode
unfoldable pub aggregate_checks : List ℕ → List Check
aggregate_checks message = message_checks message ++ field_checks (fields_of message)

-- what option 52 says of a message that is read
unfoldable pub overload_of : List ℕ → Answer ℕ
overload_of message = checked (aggregate_checks message) (given (overload (fields_of message)))

-- and those of a reading for one code: 6 comes behind 2 and 1
unfoldable pub find_checks : List ℕ → ℕ → List Check
find_checks message code = message_checks message ++ check (no_code code) 6 ∷ field_checks (fields_of message)

-- what a code is in a message
unfoldable pub find : List ℕ → ℕ → ℕ → Answer Found
find message code room = checked (find_checks message code) (option_of (fields_of message) code room)

-- the option at an index, in the order of first appearance. (Behind the last code stands 0, the code of no part)
unfoldable pub entry : List ℕ → ℕ → ℕ → Answer Found
entry message index room =
    checked (aggregate_checks message) (option_of (fields_of message) (get_or (codes_of (aggregate (fields_of message))) index 0) room)

-- all options, in that order, whatever room there is to join in
unfoldable pub options_from : List Portion → List Found
options_from ps = map (λ (code : ℕ). option_from code (of_code code ps)) (codes_of ps)

unfoldable pub entries : List ℕ → Answer (List Found)
entries message = checked (aggregate_checks message) (given (options_from (aggregate (fields_of message))))
