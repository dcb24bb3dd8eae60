-- The worked examples of docs/READING.md, of its base, of RFC 3396's reading, of a stream and of routes that are read and moved, a statement
-- for each table: each example is computed from the definitions.
-- `tools/reading` holds the page against this file.
-- Assumes nothing.
use Rattle.std.specs.Prelude.{ℕ, ◌+◌, ◌≡◌, true, false, List, [], ◌∷◌, ◌++◌, negsuc, length, replicate, take}
use Rattle.std.proofs.Math.Option.{none, some}
use Rattle.facts.specs.Distinct.{without}
use Rattle.facts.specs.Each.{Each}
use Rattle.facts.specs.Over.{over}
use Rattle.facts.specs.Pieces.{pieces}
use Rattle.facts.specs.Ranges.{lookup, row}
use Rattle.facts.specs.BigEndian.{digits, number, number_at, signed, unsigned}
use Rattle.rfc.specs.Numbers.{and_then, check, checked, first_refusal, given, most_part, needs, no_code, no_element, no_room, order, past_end, refused, too_long, too_much, too_short}
use Rattle.rfc.specs.Header.{address, area, chaddr, field, file_field, flags, hlen, hlen_of, magic, magic_field, magic_right, options, part, sname, spills, until_zero, wrong_magic, xid, yiaddr}
use Rattle.rfc.specs.Walk.{behind, cut, cut_continuation, cut_length, cut_value, end, extend, further, join_after, joined, option, out, place_after, room_for, run, step, stop, walk}
use Rattle.rfc.specs.Kinds.{from, has, kind_of, only, size_of}
use Rattle.rfc.specs.Text.{lead, owes, tail, utf8}
use Rattle.rfc.specs.Values.{Content, ListOrText, Value, at_least, breaks, element, element_at, elements, exactly, h_node, home_agents, integer, length_mode, multiple, natural, node_of, not_text, nothing, numbers, numbers_of, one_or_more, plain, raw, read, read_option, rule_for, stopped, strict, truth, unclear, unknown, value_of, valued, width_of, wrong_length}
use Rattle.rfc.specs.Writing.{answer_to, close, encode, next_part, parts_of, room_after, size_in_parts, write_bytes, write_slice}
use Rattle.rfc.specs.Typed.{Apart, Below, Empty, Proper, Seconds, encode_kind, odd_pairs, other_kind, part_size, write_value}
use Rattle.rfc.specs.Routes.{route_bytes, significant, too_wide, write_routes}
use Rattle.rfc.specs.Lists.{Bytes, Ending, Opt, Valid, encode_all, finished, listing, write_all}
use Rattle.rfc.specs.Portions.{Portion, ahead, behind_code, cut_field, cut_part, goes_on, is_cut, joined_value, next, next_portion, no_more, of_code, parts_in, portion, portions, portions_in}
use Rattle.rfc.specs.Portions.{whole}
use Rattle.rfc.specs.Aggregate.{OptionFields, aggregate, behind_last, codes_of, entries, entry, field_checks, fields_of, file_read, find, names_file, names_sname, option_from, option_of}
use Rattle.rfc.specs.Aggregate.{options_from, options_read, overload, overload_of, overloads, read_named, sname_read, unclear_overload}
use Rattle.rfc.specs.Modes.{EndsCut, EndsWhole, values_in}
use Rattle.rfc.specs.Header as Header
use Rattle.rfc.specs.Typed as Typed
use Rattle.promises.specs.Order.{follows}
use Rattle.promises.specs.Lists.{listed}
use Rattle.promises.specs.Examples.{via}
use Rattle.promises.specs.Incident.{incident}
use Rattle.rfc.specs.Strung.{RowMade, all_bytes, all_checks, strung, write_strung}
use Rattle.rfc.specs.Classless.{Fitting, all_routes, all_row_checks, as_read, behind_width, masked, no_route, nth, read_routes, route, route_ahead, route_at, route_from, route_in, route_rows, route_rows_in, row_checks}
use Rattle.rfc.specs.Moves.{back_rows, backward, barred, classes, lent_checks, move_back, move_out, octet, old_form_checks, out_rows, outward, pair_out, pair_route, pairs_checks, route_out, row_back, width_for}
use Rattle.rfc.specs.Stream.{Fits, Sendable, between, drain, drain_all, drain_in, end_size, filling, frame, framed, frames, frames_in, gather, hand_out, handing, is_shut, receive, sent, shut, sizing, start_size, taken, too_large, yields}

-- a value of a kind that holds this
abbrev pub value : ℕ → Content → Value
value kind content = record { kind = kind; content = content }

-- a reply with xid 42, secs 3, the broadcast flag, yiaddr 192.0.2.17, the address 2:0:0:0:0:1, "boot" in sname, and one option: an ACK
abbrev pub sample : List ℕ
sample =
    (2 ∷ 1 ∷ 6 ∷ 0 ∷ 0 ∷ 0 ∷ 0 ∷ 42 ∷ 0 ∷ 3 ∷ 128 ∷ 0 ∷ [])
    ++ replicate 4 0 ++ (192 ∷ 0 ∷ 2 ∷ 17 ∷ []) ++ replicate 8 0
    ++ (2 ∷ 0 ∷ 0 ∷ 0 ∷ 0 ∷ 1 ∷ []) ++ replicate 10 0
    ++ (98 ∷ 111 ∷ 111 ∷ 116 ∷ []) ++ replicate 188 0
    ++ magic ++ (53 ∷ 1 ∷ 5 ∷ 255 ∷ [])

-- code 12 with "abc"
abbrev pub abc : Opt
abc = record { code = 12; value = 97 ∷ 98 ∷ 99 ∷ [] }

abbrev pub OfGeneral : Type 0
OfGeneral =
    (over (1 ∷ 2 ∷ 3 ∷ 4 ∷ []) 1 (8 ∷ 9 ∷ []) ≡ 1 ∷ 8 ∷ 9 ∷ 4 ∷ [])
    × (pieces 2 (1 ∷ 2 ∷ 3 ∷ []) ≡ (1 ∷ 2 ∷ []) ∷ (3 ∷ []) ∷ [])
    × (lookup false (row 3 11 true ∷ []) 7 ≡ true)
    × (lookup false (row 3 11 true ∷ row 5 7 false ∷ []) 6 ≡ true)
    × (lookup false (row 3 11 true ∷ row 5 7 false ∷ []) 12 ≡ false)
    × (number (5 ∷ 220 ∷ []) ≡ 1500)
    × (number_at 2 (0 ∷ 5 ∷ 220 ∷ []) 1 ≡ 1500)
    × (number_at 2 (0 ∷ 5 ∷ 220 ∷ []) 2 ≡ 0)
    × (digits 2 1500 ≡ 5 ∷ 220 ∷ [])
    × (signed 0xffffc7c0 ≡ negsuc 14399)
    × (unsigned (negsuc 0) ≡ 4294967295)

abbrev pub OfNumbers : Type 0
OfNumbers =
    (step (12 ∷ 1 ∷ 65 ∷ 12 ∷ 1 ∷ 66 ∷ []) 0 1 ≡ needs 2)
    × (and_then (read plain 1 (7 ∷ [])) (element_at 0) ≡ refused 10)
    × (too_short (replicate 239 0) ≡ true)
    × (too_long (replicate 65536 0) ≡ true)
    × (past_end 3 (12 ∷ 0 ∷ []) ≡ true)
    × (past_end 2 (12 ∷ 0 ∷ []) ≡ false)
    × (no_element 2 2 ≡ true)
    × (no_code 255 ≡ true)
    × (too_much (replicate 4081 7) ≡ true)
    × (length (encode most_part 12 (replicate 256 7)) ≡ 260)
    × (no_room (0 ∷ 0 ∷ []) 1 (12 ∷ 0 ∷ []) ≡ true)
    × (checked (check false 2 ∷ check true 4 ∷ check true 6 ∷ []) (given true) ≡ refused 4)
    × (first_refusal (check false 2 ∷ check true 4 ∷ check true 6 ∷ []) ≡ 4)
    × (follows (2 ∷ 4 ∷ 8 ∷ []) order ≡ true)
    × (follows (4 ∷ 2 ∷ []) order ≡ false)

abbrev pub OfHeader : Type 0
OfHeader =
    (Header.bytes_of (part 1 2) (7 ∷ 8 ∷ 9 ∷ 10 ∷ []) ≡ 8 ∷ 9 ∷ [])
    × (field hlen sample ≡ given 6)
    × (field xid sample ≡ given 42)
    × (field flags sample ≡ given 32768)
    × (field yiaddr sample ≡ given 0xc0000211)
    × (file_field.start + file_field.len ≡ magic_field.start)
    × (magic_field ≡ part 236 4)
    × (field xid (replicate 239 0) ≡ refused 1)
    × (hlen_of sample ≡ 6)
    × (spills 16 ≡ false)
    × (spills 17 ≡ true)
    × (address 6 ≡ record { shown = part 28 6; own = 6; spills = false })
    × (address 17 ≡ record { shown = part 28 17; own = 16; spills = true })
    × (chaddr sample ≡ given (address 6))
    × (chaddr incident ≡ refused 3)
    × (until_zero (97 ∷ 98 ∷ 0 ∷ 99 ∷ []) ≡ 2)
    × (sname sample ≡ given (part 44 4))
    × (magic_right sample ≡ true)
    × (area sample ≡ given (options (part 240 4)))
    × (area (replicate 240 0) ≡ given wrong_magic)

abbrev pub OfWalk : Type 0
OfWalk =
    (walk 0 (12 ∷ []) ≡ stop cut_length 1)
    × (walk 0 (12 ∷ 1 ∷ 65 ∷ 255 ∷ []) ≡ option 12 (65 ∷ []) 1 3)
    × (extend (65 ∷ []) (run 1 (66 ∷ [])) ≡ run 2 (65 ∷ 66 ∷ []))
    × (further 12 (12 ∷ 1 ∷ 66 ∷ 255 ∷ []) ≡ run 1 (66 ∷ []))
    × (further 12 (0 ∷ 12 ∷ 1 ∷ 66 ∷ []) ≡ run 0 [])
    × (joined 12 (65 ∷ []) 3 (run 1 (66 ∷ [])) ≡ option 12 (65 ∷ 66 ∷ []) 2 6)
    × (joined 12 (65 ∷ []) 3 cut ≡ stop cut_continuation 3)
    × (behind 12 1 [] ≡ stop cut_length 1)
    × (behind 12 1 (5 ∷ 65 ∷ []) ≡ stop cut_value 2)
    × (walk 0 (0 ∷ 255 ∷ []) ≡ stop end 2)
    × (walk 2 [] ≡ stop out 2)
    × (room_for 1 (option 12 (65 ∷ 66 ∷ []) 2 6) ≡ needs 2)
    × (step (12 ∷ 0 ∷ 255 ∷ []) 2 0 ≡ given (stop end 3))
    × (step (12 ∷ []) 2 0 ≡ refused 4)
    × (join_after (given (option 12 (65 ∷ 66 ∷ []) 2 6)) (9 ∷ 9 ∷ 9 ∷ []) ≡ 65 ∷ 66 ∷ 9 ∷ [])
    × (place_after (refused 2) 7 ≡ 7)

abbrev pub OfKinds : Type 0
OfKinds =
    (has 3 (only 21 ∷ from 33 34 ∷ []) ≡ row 21 21 3 ∷ row 33 34 3 ∷ [])
    × (kind_of 53 ≡ 13)
    × (kind_of 61 ≡ 0)
    × (kind_of 106 ≡ 8)
    × (kind_of 108 ≡ 0)
    × (size_of 3 ≡ 8)

abbrev pub OfText : Type 0
OfText =
    (lead 0xc3 ≡ some (tail ∷ []))
    × (lead 0xc0 ≡ none)
    × (owes (some (tail ∷ [])) 0xa9 ≡ some [])
    × (owes (some (tail ∷ [])) 0x41 ≡ none)
    × (utf8 (0xc3 ∷ 0xa9 ∷ []) ≡ true)
    × (utf8 (0xc3 ∷ []) ≡ false)

abbrev pub OfValues : Type 0
OfValues =
    (value_of 15 [] ≡ value 15 nothing)
    × (numbers_of 2 (0 ∷ 68 ∷ 1 ∷ 40 ∷ []) ≡ 68 ∷ 296 ∷ [])
    × (width_of 3 ≡ 4)
    × (value_of 6 (5 ∷ 220 ∷ 9 ∷ []) ≡ value 6 (natural 1500))
    × (value_of 9 (255 ∷ 255 ∷ 199 ∷ 192 ∷ []) ≡ value 9 (integer (negsuc 14399)))
    × (breaks multiple 4 6 ≡ true)
    × (breaks at_least 4 6 ≡ false)
    × (breaks one_or_more 4 0 ≡ true)
    × (rule_for plain 8 ≡ at_least)
    × (rule_for strict 8 ≡ exactly)
    × (rule_for plain 2 ≡ multiple)
    × (rule_for strict 2 ≡ one_or_more)
    × (wrong_length plain 7 (0 ∷ 68 ∷ 1 ∷ []) ≡ true)
    × (wrong_length strict 7 [] ≡ true)
    × (length_mode strict 3 ≡ strict)
    × (length_mode strict home_agents ≡ plain)
    × (ListOrText 7)
    × (not_text 10 (255 ∷ []) ≡ true)
    × (unclear strict 5 (2 ∷ []) ≡ true)
    × (unclear plain 5 (2 ∷ []) ≡ false)
    × (read plain 19 (2 ∷ []) ≡ given (value 5 (truth false)))
    × (read strict 53 (5 ∷ 0 ∷ []) ≡ refused 10)
    × (read plain 3 [] ≡ given (value 2 (numbers [])))
    × (read strict 3 [] ≡ refused 10)
    × (read strict 68 [] ≡ given (value 2 (numbers [])))
    × (read strict 61 [] ≡ given (value 0 (raw [])))
    × (elements (value_of 3 (10 ∷ 0 ∷ 0 ∷ 1 ∷ 10 ∷ 0 ∷ 0 ∷ 2 ∷ [])) ≡ (0x0a000001 ∷ 0x0a000002 ∷ []) ∷ [])
    × (element 1 (read plain 3 (10 ∷ 0 ∷ 0 ∷ 1 ∷ [])) ≡ refused 4)
    × (node_of 8 ≡ h_node)
    × (node_of 3 ≡ unknown 3)
    × (read_option plain (given (stop end 6)) ≡ given (stopped end 6))
    × (read_option strict (step (3 ∷ 0 ∷ 3 ∷ 0 ∷ []) 0 0) ≡ refused 10)
    × (read_option strict (given (option 53 (5 ∷ []) 1 3)) ≡ given (valued 53 (value 13 (natural 5)) 3))

abbrev pub OfWriting : Type 0
OfWriting =
    (parts_of 12 ((97 ∷ 98 ∷ []) ∷ (99 ∷ []) ∷ []) ≡ 12 ∷ 2 ∷ 97 ∷ 98 ∷ 12 ∷ 1 ∷ 99 ∷ [])
    × (encode 255 12 [] ≡ [])
    × (size_in_parts 255 256 ≡ 260)
    × (size_in_parts 255 0 ≡ 0)
    × (next_part 255 256 ≡ 255)
    × (answer_to (close (0 ∷ 0 ∷ []) 1) (0 ∷ 0 ∷ []) 1 ≡ given 2)
    × (answer_to (close (0 ∷ 0 ∷ []) 2) (0 ∷ 0 ∷ []) 2 ≡ refused 8)
    × (room_after (close (0 ∷ 0 ∷ []) 1) (0 ∷ 0 ∷ []) 1 ≡ 0 ∷ 255 ∷ [])
    × (room_after (write_slice (7 ∷ []) (0 ∷ 0 ∷ []) 0) (0 ∷ 0 ∷ []) 0 ≡ 7 ∷ 0 ∷ [])
    × ((write_bytes 224 (7 ∷ []) (0 ∷ 0 ∷ 0 ∷ []) 0).bytes ≡ 224 ∷ 1 ∷ 7 ∷ [])
    × ((close (0 ∷ []) 0).bytes ≡ 255 ∷ [])

abbrev pub OfTyped : Type 0
OfTyped =
    (Typed.bytes_of (value 7 (numbers (68 ∷ 296 ∷ []))) ≡ 0 ∷ 68 ∷ 1 ∷ 40 ∷ [])
    × (Typed.bytes_of (value 5 (truth true)) ≡ 1 ∷ [])
    × (part_size 3 ≡ 248)
    × (encode_kind 15 80 [] ≡ 80 ∷ 0 ∷ [])
    × (other_kind 1 3 ≡ true)
    × (odd_pairs 3 (10 ∷ 0 ∷ 0 ∷ 1 ∷ []) ≡ true)
    × (answer_to (write_value 53 (value 13 (natural 5)) (0 ∷ 0 ∷ 0 ∷ []) 0) (0 ∷ 0 ∷ 0 ∷ []) 0 ≡ given 3)
    × (answer_to (write_value 12 (value 13 (natural 5)) (0 ∷ 0 ∷ 0 ∷ []) 0) (0 ∷ 0 ∷ 0 ∷ []) 0 ≡ refused 9)
    × (Proper 6 (natural 1500))
    × (Seconds (negsuc 2147483647))
    × (Below 256 (1 ∷ 3 ∷ 6 ∷ []))
    × (Empty (numbers []))
    × (Apart 12 (255 ∷ 12 ∷ []))

abbrev pub OfRoutes : Type 0
OfRoutes =
    (significant 9 ≡ 2)
    × (route_bytes (via 8 0x0a000000) ≡ 8 ∷ 10 ∷ 192 ∷ 0 ∷ 2 ∷ 1 ∷ [])
    × (too_wide (via 24 0 ∷ via 33 0 ∷ []) ≡ true)
    × ((write_routes (via 0 0 ∷ []) [] 0).bytes ≡ 121 ∷ 5 ∷ 0 ∷ 192 ∷ 0 ∷ 2 ∷ 1 ∷ [])

abbrev pub OfLists : Type 0
OfLists =
    (Valid (abc ∷ []))
    × (Bytes (0 ∷ 255 ∷ []))
    × (encode_all (abc ∷ []) ≡ 12 ∷ 3 ∷ 97 ∷ 98 ∷ 99 ∷ 255 ∷ [])
    × (write_all (abc ∷ []) (replicate 7 0) 0 ≡ finished (12 ∷ 3 ∷ 97 ∷ 98 ∷ 99 ∷ 255 ∷ 0 ∷ []) 6)
    × (listing (12 ∷ 3 ∷ 97 ∷ 98 ∷ 99 ∷ 255 ∷ 7 ∷ []) 0 ≡ listed (abc ∷ []) 6)
    × (Ending (given (stop end 6)))

-- two parts of code 12, around an option 1
abbrev pub twelve : Portion
twelve = portion 12 (65 ∷ []) 243

abbrev pub again : Portion
again = portion 12 (66 ∷ []) 248

abbrev pub around : List Portion
around = twelve ∷ portion 1 [] 245 ∷ again ∷ []

abbrev pub OfPortions : Type 0
OfPortions =
    (next_portion 0 (12 ∷ 1 ∷ 65 ∷ 255 ∷ []) ≡ next (portion 12 (65 ∷ []) 3) (255 ∷ []))
    × (behind_code 12 1 [] ≡ cut_part)
    × (behind_code 12 1 (5 ∷ 65 ∷ []) ≡ cut_part)
    × (next_portion 0 (0 ∷ 12 ∷ 0 ∷ []) ≡ next (portion 12 [] 3) [])
    × (next_portion 0 (255 ∷ 12 ∷ []) ≡ no_more)
    × (next_portion 0 [] ≡ no_more)
    × (ahead twelve (whole []) ≡ whole (twelve ∷ []))
    × (ahead twelve cut_field ≡ cut_field)
    × (goes_on (next twelve []) portions ≡ whole (twelve ∷ []))
    × (portions_in 1 0 (12 ∷ 0 ∷ 1 ∷ 0 ∷ []) ≡ whole (portion 12 [] 2 ∷ []))
    × (portions 240 (12 ∷ 1 ∷ 65 ∷ 1 ∷ 0 ∷ 12 ∷ 1 ∷ 66 ∷ 255 ∷ 12 ∷ []) ≡ whole around)
    × (portions 240 (12 ∷ 0 ∷ 12 ∷ []) ≡ cut_field)
    × (is_cut cut_field ≡ true)
    × (is_cut (whole []) ≡ false)
    × (parts_in (whole around) ≡ around)
    × (parts_in cut_field ≡ [])
    × (of_code 12 around ≡ twelve ∷ again ∷ [])
    × (joined_value (twelve ∷ again ∷ []) ≡ 65 ∷ 66 ∷ [])

-- the three fields that may hold options
abbrev pub three_fields : List ℕ → List ℕ → List ℕ → OptionFields
three_fields o f s = record { options = o; file = f; sname = s }

-- all of them named: a part of code 12 in each of file and sname
abbrev pub all_named : OptionFields
all_named = three_fields (52 ∷ 1 ∷ 3 ∷ 255 ∷ []) (12 ∷ 1 ∷ 66 ∷ []) (12 ∷ 1 ∷ 67 ∷ [])

abbrev pub OfOverload : Type 0
OfOverload =
    ((fields_of sample).options ≡ 53 ∷ 1 ∷ 5 ∷ 255 ∷ [])
    × (length (fields_of sample).file ≡ 128)
    × ((fields_of (replicate 244 0)).options ≡ [])
    × (options_read all_named ≡ whole (portion 52 (3 ∷ []) 243 ∷ []))
    × (overloads all_named ≡ portion 52 (3 ∷ []) 243 ∷ [])
    × (unclear_overload (portion 52 (3 ∷ []) 243 ∷ []) ≡ false)
    × (unclear_overload (portion 52 (4 ∷ []) 243 ∷ []) ≡ true)
    × (unclear_overload (portion 52 (1 ∷ 1 ∷ []) 244 ∷ []) ≡ true)
    × (unclear_overload (portion 52 (1 ∷ []) 243 ∷ portion 52 [] 245 ∷ []) ≡ true)
    × (overload all_named ≡ 3)
    × (names_file 1 ≡ true)
    × (names_file 2 ≡ false)
    × (names_sname 2 ≡ true)
    × (names_sname 1 ≡ false)
    × (read_named false 44 (12 ∷ []) ≡ whole [])
    × (file_read all_named ≡ whole (portion 12 (66 ∷ []) 111 ∷ []))
    × (sname_read all_named ≡ whole (portion 12 (67 ∷ []) 47 ∷ []))
    × (first_refusal (field_checks (three_fields (52 ∷ 0 ∷ 12 ∷ []) [] [])) ≡ 15)
    × (first_refusal (field_checks (three_fields (52 ∷ 0 ∷ []) [] [])) ≡ 16)
    × (first_refusal (field_checks (three_fields (52 ∷ 1 ∷ 2 ∷ []) (12 ∷ []) (12 ∷ []))) ≡ 15)
    × (first_refusal (field_checks (three_fields (52 ∷ 1 ∷ 2 ∷ []) (12 ∷ []) [])) ≡ 0)
    × (aggregate all_named ≡ portion 52 (3 ∷ []) 243 ∷ portion 12 (66 ∷ []) 111 ∷ portion 12 (67 ∷ []) 47 ∷ [])

abbrev pub OfAggregate : Type 0
OfAggregate =
    (without 12 (12 ∷ 1 ∷ 12 ∷ []) ≡ 1 ∷ [])
    × (codes_of around ≡ 12 ∷ 1 ∷ [])
    × (behind_last twelve (again ∷ []) ≡ 248)
    × (option_from 12 (twelve ∷ again ∷ []) ≡ option 12 (65 ∷ 66 ∷ []) 2 248)
    × (option_from 12 [] ≡ stop out 0)
    × (option_of all_named 12 1 ≡ needs 2)
    × (overload_of sample ≡ given 0)
    × (overload_of (replicate 239 0) ≡ refused 1)
    × (find sample 53 0 ≡ given (option 53 (5 ∷ []) 1 243))
    × (find sample 12 0 ≡ given (stop out 0))
    × (find sample 255 0 ≡ refused 6)
    × (entry sample 0 0 ≡ given (option 53 (5 ∷ []) 1 243))
    × (entry sample 1 0 ≡ given (stop out 0))
    × (options_from around ≡ option 12 (65 ∷ 66 ∷ []) 2 248 ∷ option 1 [] 1 245 ∷ [])
    × (entries sample ≡ given (option 53 (5 ∷ []) 1 243 ∷ []))
    × (values_in 12 (abc ∷ record { code = 1; value = 7 ∷ [] } ∷ abc ∷ []) ≡ 97 ∷ 98 ∷ 99 ∷ 97 ∷ 98 ∷ 99 ∷ [])
    × (EndsCut (given (stop cut_continuation 3)))
    × (EndsWhole (given (stop end 6)))

-- messages that a stream carries: one of the least length, and one of 256 bytes
abbrev pub least : List ℕ
least = replicate 240 7

abbrev pub longer : List ℕ
longer = replicate 256 7

abbrev pub OfFrames : Type 0
OfFrames =
    (framed (7 ∷ 8 ∷ []) ≡ 0 ∷ 2 ∷ 7 ∷ 8 ∷ [])
    × (take 4 (framed longer) ≡ 1 ∷ 0 ∷ 7 ∷ 7 ∷ [])
    × (sent ((7 ∷ []) ∷ [] ∷ []) ≡ 0 ∷ 1 ∷ 7 ∷ 0 ∷ 0 ∷ [])
    × (Each (Sendable (replicate 240 9)) (least ∷ least ∷ []))
    × (too_large 3 (9 ∷ 9 ∷ []) ≡ true)
    × (too_large 2 (9 ∷ 9 ∷ []) ≡ false)
    × (frame least ≡ given least)
    × (frame (replicate 239 7) ≡ refused 1)
    × (handing (some (refused 1)) (yields [] between (7 ∷ [])) ≡ yields (refused 1 ∷ []) between (7 ∷ []))
    × (handing none (yields [] between (7 ∷ [])) ≡ yields [] between (7 ∷ []))
    × (frames_in 1 (9 ∷ []) (0 ∷ 1 ∷ 7 ∷ 0 ∷ 0 ∷ []) ≡ yields (refused 1 ∷ []) between (7 ∷ []))
    × (frames (9 ∷ 9 ∷ 9 ∷ 9 ∷ []) (0 ∷ 3 ∷ 1 ∷ 2 ∷ 3 ∷ 4 ∷ []) ≡ yields (refused 1 ∷ []) (sizing 4) (1 ∷ 2 ∷ 3 ∷ 9 ∷ []))
    × (frames [] (0 ∷ 0 ∷ []) ≡ yields (refused 1 ∷ []) between [])
    × (frames (9 ∷ []) (0 ∷ 2 ∷ 1 ∷ []) ≡ yields (refused 17 ∷ []) shut (9 ∷ []))
    × (frames (9 ∷ 9 ∷ 9 ∷ []) (0 ∷ 3 ∷ 7 ∷ []) ≡ yields [] (filling 3 1) (7 ∷ 9 ∷ 9 ∷ []))
    × (frames (replicate 241 9) (framed least ++ 0 ∷ []) ≡ yields (given least ∷ []) (sizing 0) (least ++ 9 ∷ []))
    × (frames (replicate 240 9) (0 ∷ 241 ∷ []) ≡ yields (refused 17 ∷ []) shut (replicate 240 9))

-- two frames, and a size that is too large, in six reads, one of them empty
abbrev pub in_pieces : List (List ℕ)
in_pieces = (0 ∷ []) ∷ (2 ∷ 5 ∷ 6 ∷ []) ∷ [] ∷ (0 ∷ []) ∷ (1 ∷ 7 ∷ 0 ∷ []) ∷ (4 ∷ 5 ∷ []) ∷ []

abbrev pub OfStream : Type 0
OfStream =
    (hand_out 4 2 (7 ∷ 8 ∷ 9 ∷ []) ≡ taken (some (refused 1)) 4 between (7 ∷ 8 ∷ 9 ∷ []))
    × (gather 0 3 0 (9 ∷ 9 ∷ []) (5 ∷ []) ≡ taken (some (refused 17)) 0 shut (9 ∷ 9 ∷ []))
    × (gather 0 5 2 (9 ∷ 9 ∷ 9 ∷ 9 ∷ 9 ∷ []) (3 ∷ 4 ∷ []) ≡ taken none 2 (filling 5 4) (9 ∷ 9 ∷ 3 ∷ 4 ∷ 9 ∷ []))
    × (gather 0 2 1 (5 ∷ 9 ∷ []) (6 ∷ 0 ∷ []) ≡ taken (some (refused 1)) 1 between (5 ∷ 6 ∷ []))
    × (end_size 1 2 (9 ∷ []) [] ≡ taken none 1 (sizing 2) (9 ∷ []))
    × (end_size 0 0 (9 ∷ []) (1 ∷ 7 ∷ 0 ∷ []) ≡ taken (some (refused 1)) 2 between (7 ∷ []))
    × (start_size (9 ∷ []) [] ≡ taken none 0 between (9 ∷ []))
    × (receive between (9 ∷ []) (0 ∷ 0 ∷ 0 ∷ []) ≡ taken (some (refused 1)) 2 between (9 ∷ []))
    × (receive (sizing 1) (replicate 300 9) (0 ∷ []) ≡ taken none 1 (filling 256 0) (replicate 300 9))
    × (receive (filling 5 2) (9 ∷ 9 ∷ 9 ∷ 9 ∷ []) [] ≡ taken (some (refused 17)) 0 shut (9 ∷ 9 ∷ 9 ∷ 9 ∷ []))
    × (receive shut (9 ∷ []) (0 ∷ 0 ∷ []) ≡ taken (some (refused 17)) 0 shut (9 ∷ []))
    × (is_shut shut ≡ true)
    × (is_shut between ≡ false)
    × (drain_in 1 between (9 ∷ []) (0 ∷ 0 ∷ 0 ∷ 0 ∷ []) ≡ yields (refused 1 ∷ []) between (9 ∷ []))
    × (drain between (9 ∷ []) (0 ∷ 0 ∷ 0 ∷ 0 ∷ 0 ∷ []) ≡ yields (refused 1 ∷ refused 1 ∷ []) (sizing 0) (9 ∷ []))
    × (drain_all between (9 ∷ 9 ∷ 9 ∷ []) in_pieces ≡ yields (refused 1 ∷ refused 1 ∷ refused 17 ∷ []) shut (7 ∷ 6 ∷ 9 ∷ []))
    × (drain_all between (replicate 240 9) ((0 ∷ []) ∷ (241 ∷ []) ∷ (0 ∷ 0 ∷ []) ∷ []) ≡ yields (refused 17 ∷ []) shut (replicate 240 9))
    × (drain_all between (replicate 300 9) ((1 ∷ 0 ∷ replicate 255 7) ∷ [] ∷ (7 ∷ 0 ∷ 1 ∷ 8 ∷ []) ∷ []) ≡ yields (given longer ∷ refused 1 ∷ []) between (8 ∷ replicate 255 7 ++ replicate 44 9))
    × (Fits (9 ∷ 9 ∷ []) (filling 2 1))

-- a row that is good, and one that is refused
abbrev pub good_row : RowMade
good_row = record { checks = check false 18 ∷ []; bytes = 7 ∷ [] }

abbrev pub bad_row : RowMade
bad_row = record { checks = check false 18 ∷ check true 19 ∷ []; bytes = 8 ∷ [] }

abbrev pub OfStrung : Type 0
OfStrung =
    (first_refusal (all_checks (good_row ∷ bad_row ∷ [])) ≡ 19)
    × (all_bytes (good_row ∷ bad_row ∷ []) ≡ 7 ∷ 8 ∷ [])
    × (strung (good_row ∷ good_row ∷ []) ≡ given (7 ∷ 7 ∷ []))
    × (strung (good_row ∷ bad_row ∷ []) ≡ refused 19)
    × ((write_strung [] 2 33 (good_row ∷ good_row ∷ good_row ∷ [])).bytes ≡ 33 ∷ 2 ∷ 7 ∷ 7 ∷ 33 ∷ 1 ∷ 7 ∷ [])

-- 10.0.0.0 by its network, and the default route, each through 192.0.2.1
abbrev pub ten : List ℕ
ten = 8 ∷ 10 ∷ 192 ∷ 0 ∷ 2 ∷ 1 ∷ []

abbrev pub default : List ℕ
default = 0 ∷ 192 ∷ 0 ∷ 2 ∷ 1 ∷ []

abbrev pub OfClassless : Type 0
OfClassless =
    (masked 25 0x81d2b184 ≡ 0x81d2b180)
    × (as_read (via 8 0x0a0b0c0d) ≡ via 8 0x0a000000)
    × (Fitting (via 32 0xffffffff))
    × (behind_width 9 ≡ 6)
    × (route_in 9 (10 ∷ 255 ∷ 192 ∷ 0 ∷ 2 ∷ 1 ∷ []) ≡ via 9 0x0a800000)
    × (first_refusal (row_checks 33 []) ≡ 12)
    × (first_refusal (row_checks 8 (0 ∷ 1 ∷ 2 ∷ 3 ∷ [])) ≡ 10)
    × (all_routes (route_rows_in 1 (ten ++ default)) ≡ via 8 0x0a000000 ∷ [])
    × (all_routes (route_rows (ten ++ default)) ≡ via 8 0x0a000000 ∷ via 0 0 ∷ [])
    × (first_refusal (all_row_checks (route_rows (ten ++ 33 ∷ []))) ≡ 12)
    × (read_routes (ten ++ default) ≡ given (via 8 0x0a000000 ∷ via 0 0 ∷ []))
    × (read_routes (25 ∷ 129 ∷ 210 ∷ 177 ∷ 132 ∷ 192 ∷ 0 ∷ 2 ∷ 1 ∷ []) ≡ given (via 25 0x81d2b180 ∷ []))
    × (read_routes [] ≡ given [])
    × (read_routes (ten ++ 8 ∷ 0 ∷ 1 ∷ 2 ∷ 3 ∷ []) ≡ refused 10)
    × (nth 1 (via 8 0 ∷ via 9 0 ∷ []) ≡ given (via 9 0))
    × (route_at 1 ten ≡ refused 4)
    × (route_at 0 (ten ++ 33 ∷ []) ≡ refused 12)
    × (route_ahead 6 [] ≡ given no_route)
    × (route_from (ten ++ default) 6 ≡ given (route (via 0 0) 11))
    × (route_from ten 6 ≡ given no_route)
    × (route_from ten 7 ≡ refused 4)

-- 10.0.0.0 through 192.0.2.1 as a pair, 172.16.0.0 and 10.1.0.0 with it, and a host's address
abbrev pub ten_pair : List ℕ
ten_pair = 10 ∷ 0 ∷ 0 ∷ 0 ∷ 192 ∷ 0 ∷ 2 ∷ 1 ∷ []

abbrev pub two_pairs : List ℕ
two_pairs = 172 ∷ 16 ∷ 0 ∷ 0 ∷ 192 ∷ 0 ∷ 2 ∷ 1 ∷ 10 ∷ 1 ∷ 0 ∷ 0 ∷ 192 ∷ 0 ∷ 2 ∷ 1 ∷ []

abbrev pub ten_host : List ℕ
ten_host = 32 ∷ 10 ∷ 0 ∷ 0 ∷ 0 ∷ 192 ∷ 0 ∷ 2 ∷ 1 ∷ []

abbrev pub zeros : List ℕ
zeros = replicate 12 0

abbrev pub OfRule : Type 0
OfRule =
    (octet 0xe0000001 ≡ 224)
    × (lookup 32 classes 127 ≡ 8)
    × (lookup 32 classes 128 ≡ 16)
    × (lookup 32 classes 191 ≡ 16)
    × (lookup 32 classes 192 ≡ 24)
    × (lookup 32 classes 223 ≡ 24)
    × (width_for 0x0a000000 ≡ 8)
    × (width_for 0x0a000100 ≡ 32)
    × (width_for 0xac100000 ≡ 16)
    × (width_for 0xac100001 ≡ 32)
    × (width_for 0xc0a80700 ≡ 24)
    × (width_for 0xc0a80701 ≡ 32)
    × (width_for 0xe0000000 ≡ 32)
    × (barred 0 ≡ true)
    × (barred 0xdfffffff ≡ false)
    × (barred 0xe0000000 ≡ true)

abbrev pub OfMoves : Type 0
OfMoves =
    (pair_route 0x0a000000 0xc0000201 ≡ via 8 0x0a000000)
    × ((route_out (via 8 0x0a000000)).bytes ≡ ten)
    × (first_refusal (pair_out (replicate 8 0)).checks ≡ 18)
    × (all_bytes (out_rows (ten_pair ++ ten_pair)) ≡ ten ++ ten)
    × (outward two_pairs ≡ given (16 ∷ 172 ∷ 16 ∷ 192 ∷ 0 ∷ 2 ∷ 1 ∷ 32 ∷ 10 ∷ 1 ∷ 0 ∷ 0 ∷ 192 ∷ 0 ∷ 2 ∷ 1 ∷ []))
    × (first_refusal (old_form_checks (via 32 0x0a000000)) ≡ 19)
    × (first_refusal (old_form_checks (via 24 0xe0000000)) ≡ 18)
    × ((row_back (record { checks = []; route = via 8 0x0a000000 })).bytes ≡ ten_pair)
    × (all_bytes (back_rows (ten ++ ten)) ≡ ten_pair ++ ten_pair)
    × (backward ten ≡ given ten_pair)
    × (backward ten_host ≡ refused 19)
    × (backward (2 ∷ 255 ∷ 192 ∷ 0 ∷ 2 ∷ 1 ∷ []) ≡ refused 19)
    × (backward (4 ∷ 15 ∷ 192 ∷ 0 ∷ 2 ∷ 1 ∷ []) ≡ refused 18)
    × (backward (default ++ 33 ∷ []) ≡ refused 18)
    × (backward (ten_host ++ 33 ∷ []) ≡ refused 19)
    × (backward (8 ∷ 0 ∷ 1 ∷ 2 ∷ 3 ∷ []) ≡ refused 10)
    × (backward (33 ∷ 0 ∷ []) ≡ refused 12)
    × (first_refusal (lent_checks [] [] 1) ≡ 4)
    × (first_refusal (pairs_checks (replicate 9 0)) ≡ 10)
    × (answer_to (move_out ten_pair zeros 1) zeros 1 ≡ given 9)
    × (room_after (move_out ten_pair zeros 1) zeros 1 ≡ 0 ∷ 121 ∷ 6 ∷ ten ++ 0 ∷ 0 ∷ 0 ∷ [])
    × (answer_to (move_out (replicate 9 0) zeros 0) zeros 0 ≡ refused 10)
    × (answer_to (move_out (ten_pair ++ 224 ∷ 0 ∷ 0 ∷ 1 ∷ 192 ∷ 0 ∷ 2 ∷ 1 ∷ []) (0 ∷ 0 ∷ 0 ∷ []) 0) (0 ∷ 0 ∷ 0 ∷ []) 0 ≡ refused 18)
    × (answer_to (move_out ten_pair (replicate 7 0) 0) (replicate 7 0) 0 ≡ refused 8)
    × (answer_to (move_out [] zeros 12) zeros 12 ≡ given 12)
    × (answer_to (move_out [] zeros 13) zeros 13 ≡ refused 4)
    × (answer_to (move_back ten zeros 0) zeros 0 ≡ given 10)
    × (room_after (move_back ten zeros 0) zeros 0 ≡ 33 ∷ 8 ∷ ten_pair ++ 0 ∷ 0 ∷ [])
