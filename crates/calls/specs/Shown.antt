-- The worked examples of docs/READING.md that speak of rows and of the listings: a statement for each of its tables there. Each example
-- is computed from the definitions. `tools/reading` holds the page against this file.
-- Assumes nothing.
use Rattle.std.specs.Prelude.{ℕ, ◌≡◌, true, false, List, [], ◌∷◌, ◌++◌, replicate, Ok, Err}
use Rattle.rfc.specs.Numbers.{given, refused, needs}
use Rattle.rfc.specs.Header.{area, magic}
use Rattle.rfc.specs.Walk.{end, option, out, stop}
use Rattle.rfc.specs.Values.{plain, read, strict}
use Rattle.rfc.specs.Aggregate.{entries, overload_of}
use Rattle.crossing.specs.Carried.{value_of}
use Rattle.options.specs.Rows.{WroteRows, all, answer_of, not_code, outside, room_of, rows_from, stuck, write_row, write_rows}
use Rattle.sindovaleph_rows.specs.Writing.{WritesList, written_rows}
use Rattle.sindovaleph_rows.specs.Listing.{Last, Listing, Lists, at_stop, found, full, in_front, last_number, list, list_in, listed_of, read_unjoined, row_of, rows_after, step_row, typed, value_row, width}
use Rattle.sindovaleph_entries.specs.Rows.{ListsEntries, entries_after, entries_of, entry_row, entry_rows}
use Rattle.pen.specs.Texts.{decimal, named, spaced}
use Rattle.lines.specs.Listing.{address_text, area_lines, chaddr_line, lines_in, listing, message_line, onward, option_line, refused_line, spill_text, stop_line, stop_word}
use Rattle.lines.specs.Words as Words
use Rattle.joined_lines.specs.JoinedWords as JoinedWords
use Rattle.joined_lines.specs.Joined.{codes_line, entries_in, fields_line, fields_lines, in_turn, joined_lines, joined_listing}

-- rows that are listed, how their listing ends, and the place
abbrev pub rows_to : List ℕ → Last → ℕ → Listing
rows_to rows last place = record { rows = rows; last = last; place = place }

-- code 12 with 65, and End
abbrev pub closed : List ℕ
closed = 12 ∷ 1 ∷ 65 ∷ 255 ∷ []

-- the message of document 01's listing: 244 bytes
abbrev pub reply : List ℕ
reply =
    (2 ∷ 1 ∷ 6 ∷ 0 ∷ 0 ∷ 0 ∷ 0 ∷ 42 ∷ [])
    ++ replicate 20 0 ++ (2 ∷ 0 ∷ 0 ∷ 0 ∷ 0 ∷ 1 ∷ []) ++ replicate 202 0
    ++ magic ++ (53 ∷ 1 ∷ 5 ∷ 255 ∷ [])

-- its text, a line each: message 244 op 2 htype 1 hlen 6 xid 42
abbrev pub line1 : List ℕ
line1 =
    109 ∷ 101 ∷ 115 ∷ 115 ∷ 97 ∷ 103 ∷ 101 ∷ 32 ∷ 50 ∷ 52 ∷ 52 ∷ 32 ∷ 111 ∷ 112 ∷ 32 ∷ 50 ∷ 32 ∷ 104 ∷ 116 ∷ 121 ∷ 112 ∷ 101 ∷ 32 ∷ 49
    ∷ 32 ∷ 104 ∷ 108 ∷ 101 ∷ 110 ∷ 32 ∷ 54 ∷ 32 ∷ 120 ∷ 105 ∷ 100 ∷ 32 ∷ 52 ∷ 50 ∷ 10 ∷ []

-- chaddr 2 0 0 0 0 1
abbrev pub line2 : List ℕ
line2 = 99 ∷ 104 ∷ 97 ∷ 100 ∷ 100 ∷ 114 ∷ 32 ∷ 50 ∷ 32 ∷ 48 ∷ 32 ∷ 48 ∷ 32 ∷ 48 ∷ 32 ∷ 48 ∷ 32 ∷ 49 ∷ 10 ∷ []

-- the same message with hlen 17 and "b" in sname
abbrev pub spilling : List ℕ
spilling =
    (2 ∷ 1 ∷ 17 ∷ 0 ∷ 0 ∷ 0 ∷ 0 ∷ 42 ∷ [])
    ++ replicate 20 0 ++ (2 ∷ 0 ∷ 0 ∷ 0 ∷ 0 ∷ 1 ∷ []) ++ replicate 10 0 ++ (98 ∷ []) ++ replicate 191 0
    ++ magic ++ (53 ∷ 1 ∷ 5 ∷ 255 ∷ [])

-- chaddr 2 0 0 0 0 1 0 0 0 0 0 0 0 0 0 0 98 spill
abbrev pub spilling2 : List ℕ
spilling2 =
    99 ∷ 104 ∷ 97 ∷ 100 ∷ 100 ∷ 114 ∷ 32 ∷ 50 ∷ 32 ∷ 48 ∷ 32 ∷ 48 ∷ 32 ∷ 48 ∷ 32 ∷ 48 ∷ 32 ∷ 49 ∷ 32 ∷ 48 ∷ 32 ∷ 48 ∷ 32 ∷ 48 ∷ 32 ∷ 48
    ∷ 32 ∷ 48 ∷ 32 ∷ 48 ∷ 32 ∷ 48 ∷ 32 ∷ 48 ∷ 32 ∷ 48 ∷ 32 ∷ 48 ∷ 32 ∷ 57 ∷ 56 ∷ 32 ∷ 115 ∷ 112 ∷ 105 ∷ 108 ∷ 108 ∷ 10 ∷ []

-- option 53 kind 13 parts 1 value 5
abbrev pub line3 : List ℕ
line3 =
    111 ∷ 112 ∷ 116 ∷ 105 ∷ 111 ∷ 110 ∷ 32 ∷ 53 ∷ 51 ∷ 32 ∷ 107 ∷ 105 ∷ 110 ∷ 100 ∷ 32 ∷ 49 ∷ 51 ∷ 32 ∷ 112 ∷ 97 ∷ 114 ∷ 116 ∷ 115 ∷ 32
    ∷ 49 ∷ 32 ∷ 118 ∷ 97 ∷ 108 ∷ 117 ∷ 101 ∷ 32 ∷ 53 ∷ 10 ∷ []

-- stop end 4
abbrev pub line4 : List ℕ
line4 = 115 ∷ 116 ∷ 111 ∷ 112 ∷ 32 ∷ 101 ∷ 110 ∷ 100 ∷ 32 ∷ 52 ∷ 10 ∷ []

-- a message with RFC 3396's example, section 8: the file name /diskless/foo as option 67 in two parts, one in the options field and one in
-- the field file, which option 52 names
abbrev pub split : List ℕ
split =
    replicate 108 0 ++ (67 ∷ 6 ∷ 115 ∷ 115 ∷ 47 ∷ 102 ∷ 111 ∷ 111 ∷ 255 ∷ []) ++ replicate 119 0 ++ magic
    ++ (52 ∷ 1 ∷ 1 ∷ 67 ∷ 7 ∷ 47 ∷ 100 ∷ 105 ∷ 115 ∷ 107 ∷ 108 ∷ 101 ∷ 255 ∷ [])

-- its text, a line each: fields options file
abbrev pub joined1 : List ℕ
joined1 = 102 ∷ 105 ∷ 101 ∷ 108 ∷ 100 ∷ 115 ∷ 32 ∷ 111 ∷ 112 ∷ 116 ∷ 105 ∷ 111 ∷ 110 ∷ 115 ∷ 32 ∷ 102 ∷ 105 ∷ 108 ∷ 101 ∷ 10 ∷ []

-- option 52 kind 4 parts 1 value 1
abbrev pub joined2 : List ℕ
joined2 =
    111 ∷ 112 ∷ 116 ∷ 105 ∷ 111 ∷ 110 ∷ 32 ∷ 53 ∷ 50 ∷ 32 ∷ 107 ∷ 105 ∷ 110 ∷ 100 ∷ 32 ∷ 52 ∷ 32 ∷ 112 ∷ 97 ∷ 114 ∷ 116 ∷ 115 ∷ 32 ∷ 49
    ∷ 32 ∷ 118 ∷ 97 ∷ 108 ∷ 117 ∷ 101 ∷ 32 ∷ 49 ∷ 10 ∷ []

-- option 67 kind 0 parts 2 value 47 100 105 115 107 108 101 115 115 47 102 111 111
abbrev pub joined3 : List ℕ
joined3 =
    111 ∷ 112 ∷ 116 ∷ 105 ∷ 111 ∷ 110 ∷ 32 ∷ 54 ∷ 55 ∷ 32 ∷ 107 ∷ 105 ∷ 110 ∷ 100 ∷ 32 ∷ 48 ∷ 32 ∷ 112 ∷ 97 ∷ 114 ∷ 116 ∷ 115 ∷ 32 ∷ 50
    ∷ 32 ∷ 118 ∷ 97 ∷ 108 ∷ 117 ∷ 101 ∷ 32 ∷ 52 ∷ 55 ∷ 32 ∷ 49 ∷ 48 ∷ 48 ∷ 32 ∷ 49 ∷ 48 ∷ 53 ∷ 32 ∷ 49 ∷ 49 ∷ 53 ∷ 32 ∷ 49 ∷ 48 ∷ 55 ∷ 32
    ∷ 49 ∷ 48 ∷ 56 ∷ 32 ∷ 49 ∷ 48 ∷ 49 ∷ 32 ∷ 49 ∷ 49 ∷ 53 ∷ 32 ∷ 49 ∷ 49 ∷ 53 ∷ 32 ∷ 52 ∷ 55 ∷ 32 ∷ 49 ∷ 48 ∷ 50 ∷ 32 ∷ 49 ∷ 49 ∷ 49 ∷ 32
    ∷ 49 ∷ 49 ∷ 49 ∷ 10 ∷ []

-- codes 2
abbrev pub joined4 : List ℕ
joined4 = 99 ∷ 111 ∷ 100 ∷ 101 ∷ 115 ∷ 32 ∷ 50 ∷ 10 ∷ []

abbrev pub OfRowsWritten : Type 0
OfRowsWritten =
    (outside 3 2 (97 ∷ 98 ∷ 99 ∷ 100 ∷ []) ≡ true)
    × (outside 2 2 (97 ∷ 98 ∷ 99 ∷ 100 ∷ []) ≡ false)
    × (not_code 256 ≡ true)
    × (not_code 12 ≡ false)
    × ((write_row 12 1 2 (97 ∷ 98 ∷ 99 ∷ [])).bytes ≡ 12 ∷ 2 ∷ 98 ∷ 99 ∷ [])
    × (rows_from 0 (12 ∷ 0 ∷ 1 ∷ 7 ∷ []) (65 ∷ []) (0 ∷ 0 ∷ 0 ∷ []) 0 ≡ all 1 (12 ∷ 1 ∷ 65 ∷ []) 3)
    × (rows_from 0 (12 ∷ 0 ∷ 1 ∷ 0 ∷ 0 ∷ 1 ∷ []) (65 ∷ []) (0 ∷ 0 ∷ 0 ∷ []) 0 ≡ stuck 1 6)
    × (write_rows (0 ∷ 0 ∷ 0 ∷ []) [] (0 ∷ []) 2 ≡ stuck 0 4)
    × (answer_of (all 1 (12 ∷ 1 ∷ 65 ∷ []) 3) ≡ Ok (1, 3))
    × (answer_of (stuck 1 6) ≡ Err (1, refused 6))
    × (room_of (stuck 1 6) (9 ∷ 9 ∷ 9 ∷ []) ≡ 9 ∷ 9 ∷ 9 ∷ [])
    × (WroteRows (12 ∷ 0 ∷ 1 ∷ []) (65 ∷ []) (9 ∷ 9 ∷ 9 ∷ 9 ∷ []) (12 ∷ 1 ∷ 65 ∷ 9 ∷ []) 0 (Ok (record { rows = 1; place = 3 })))
    × (written_rows 2 (stuck 1 6) ≡ record { refused = 6; rows = 1; place = 2 })
    × (WritesList (12 ∷ 0 ∷ 1 ∷ []) (65 ∷ []) (9 ∷ 9 ∷ []) (9 ∷ 9 ∷ []) 0 (record { refused = 8; rows = 0; place = 0 }))

abbrev pub OfRowsListed : Type 0
OfRowsListed =
    (step_row 12 (65 ∷ []) 1 3 ≡ 12 ∷ 1 ∷ 1 ∷ 3 ∷ [])
    × (value_row (value_of (read plain 53 (5 ∷ []))) ≡ 0 ∷ 13 ∷ 5 ∷ 0 ∷ [])
    × (read_unjoined plain 12 (65 ∷ 66 ∷ []) 2 6 ≡ needs 2)
    × (read_unjoined strict 3 [] 2 4 ≡ refused 10)
    × (width found ≡ 4)
    × (row_of (typed plain) 53 (5 ∷ []) 1 3 ≡ 53 ∷ 1 ∷ 1 ∷ 3 ∷ 0 ∷ 13 ∷ 5 ∷ 0 ∷ [])
    × (in_front found (stop end 4) (list_in 1 found closed) ≡ rows_to [] (at_stop end) 4)
    × (list_in 2 found closed 0 ≡ rows_to (12 ∷ 1 ∷ 1 ∷ 3 ∷ []) (at_stop end) 4)
    × (list_in 1 found closed 0 ≡ rows_to (12 ∷ 1 ∷ 1 ∷ 3 ∷ []) full 3)
    × (list found closed 0 7 ≡ given (rows_to (12 ∷ 1 ∷ 1 ∷ 3 ∷ []) full 3))
    × (list found closed 5 8 ≡ refused 4)
    × (list (typed strict) (3 ∷ 0 ∷ 3 ∷ 0 ∷ []) 0 8 ≡ given (rows_to (3 ∷ 2 ∷ 0 ∷ 4 ∷ 10 ∷ 0 ∷ 0 ∷ 0 ∷ []) full 4))
    × (last_number (at_stop end) ≡ 2)
    × (listed_of found 0 (list found closed 0 8) ≡ record { refused = 0; stop = 2; rows = 1; place = 4 })
    × (listed_of found 5 (list found closed 5 8) ≡ record { refused = 4; stop = 0; rows = 0; place = 5 })
    × (rows_after (list found closed 0 5) (9 ∷ 9 ∷ 9 ∷ 9 ∷ 9 ∷ []) ≡ 12 ∷ 1 ∷ 1 ∷ 3 ∷ 9 ∷ [])
    × (Lists found closed 0 (9 ∷ 9 ∷ 9 ∷ 9 ∷ []) (12 ∷ 1 ∷ 1 ∷ 3 ∷ []) (record { refused = 0; stop = 0; rows = 1; place = 3 }))

abbrev pub OfEntries : Type 0
OfEntries =
    (entry_row (option 12 (65 ∷ 66 ∷ []) 2 248) ≡ 12 ∷ 2 ∷ 2 ∷ 248 ∷ [])
    × (entry_rows 1 (option 12 (65 ∷ []) 1 243 ∷ option 1 [] 1 245 ∷ []) ≡ 12 ∷ 1 ∷ 1 ∷ 243 ∷ [])
    × (entries_of (entries reply) ≡ record { refused = 0; codes = 1 })
    × (entries_of (refused 15) ≡ record { refused = 15; codes = 0 })
    × (entries_after (entries reply) (9 ∷ 9 ∷ 9 ∷ 9 ∷ 9 ∷ []) ≡ 53 ∷ 1 ∷ 1 ∷ 243 ∷ 9 ∷ [])
    × (ListsEntries reply (9 ∷ 9 ∷ 9 ∷ []) (9 ∷ 9 ∷ 9 ∷ []) (record { refused = 0; codes = 1 }))

abbrev pub OfListing : Type 0
OfListing =
    (decimal 240 ≡ 50 ∷ 52 ∷ 48 ∷ [])
    × (named Words.op 2 ≡ 32 ∷ 111 ∷ 112 ∷ 32 ∷ 50 ∷ [])
    × (spaced (5 ∷ 12 ∷ []) ≡ 32 ∷ 53 ∷ 32 ∷ 49 ∷ 50 ∷ [])
    × (Words.chaddr ≡ 99 ∷ 104 ∷ 97 ∷ 100 ∷ 100 ∷ 114 ∷ [])
    × (message_line reply ≡ line1)
    × (refused_line 3 ≡ Words.refused ++ 51 ∷ 10 ∷ [])
    × (address_text reply (refused 3) ≡ 32 ∷ refused_line 3)
    × (spill_text true ≡ Words.spill ++ 10 ∷ [])
    × (spill_text false ≡ 10 ∷ [])
    × (chaddr_line reply ≡ line2)
    × (chaddr_line spilling ≡ spilling2)
    × (option_line 53 (5 ∷ []) 1 ≡ line3)
    × (stop_word end ≡ Words.stop_end)
    × (stop_line end 4 ≡ line4)
    × (onward (given (option 53 (5 ∷ []) 1 3)) (stop_line end) ≡ line3 ++ stop_line end 3)
    × (lines_in 2 0 (53 ∷ 1 ∷ 5 ∷ 255 ∷ []) 0 ≡ line3 ++ line4)
    × (area_lines reply (area reply) ≡ line3 ++ line4)
    × (area_lines (replicate 240 0) (area (replicate 240 0)) ≡ Words.magic_wrong ++ 10 ∷ [])
    × (listing reply ≡ line1 ++ line2 ++ line3 ++ line4)
    × (listing (replicate 239 0) ≡ refused_line 1)
    × (listing (replicate 4097 0) ≡ Words.too_long ++ 10 ∷ [])

abbrev pub OfJoined : Type 0
OfJoined =
    (JoinedWords.file ≡ 32 ∷ 102 ∷ 105 ∷ 108 ∷ 101 ∷ [])
    × (fields_line 1 ≡ joined1)
    × (codes_line 2 ≡ joined4)
    × (in_turn (given (option 52 (1 ∷ []) 1 243)) 0 joined4 ≡ joined2 ++ joined4)
    × (in_turn (given (stop out 0)) 2 [] ≡ joined4)
    × (entries_in 3 13 split 0 ≡ joined2 ++ joined3 ++ joined4)
    × (fields_lines split (overload_of split) ≡ joined1 ++ joined2 ++ joined3 ++ joined4)
    × (fields_lines split (refused 16) ≡ refused_line 16)
    × (joined_lines (replicate 240 0) (area (replicate 240 0)) ≡ Words.magic_wrong ++ 10 ∷ [])
    × (joined_listing split ≡ joined1 ++ joined2 ++ joined3 ++ joined4)
    × (joined_listing (replicate 239 0) ≡ refused_line 1)
    × (joined_listing (replicate 4097 0) ≡ Words.too_long ++ 10 ∷ [])
