-- Worked examples of RFC 3396's reading on whole messages (document 02, ticket 1): options whose parts stand apart, file and sname in use, and
-- each refusal. The one with `/diskless/foo` is of RFC 3396, section 8.
-- Assumes nothing.
use Rattle.std.specs.Prelude.{ℕ, ◌-◌, ◌≡◌, List, [], ◌∷◌, ◌++◌, length, replicate}
use Rattle.rfc.specs.Numbers.{given, refused, needs}
use Rattle.rfc.specs.Header.{Part, sname_field, file_field, magic}
use Rattle.rfc.specs.Walk.{stop, option, out}
use Rattle.rfc.specs.Aggregate.{overload_of, find, entry, entries}

-- bytes at the front of a field, and zeros behind them
abbrev pub filled : Part → List ℕ → List ℕ
filled f bytes = bytes ++ replicate (f.len - length bytes) 0

-- a message: zeros up to sname, then sname and file, four bytes, and the options
abbrev pub made : List ℕ → List ℕ → List ℕ → List ℕ → List ℕ
made four options file sname =
    replicate sname_field.start 0 ++ filled sname_field sname ++ filled file_field file ++ four ++ options

-- with the magic; and with options alone
abbrev pub with_fields : List ℕ → List ℕ → List ℕ → List ℕ
with_fields options file sname = made magic options file sname

abbrev pub with_options : List ℕ → List ℕ
with_options options = with_fields options [] []

-- two parts around another option
abbrev pub split_around : List ℕ
split_around = with_options (12 ∷ 1 ∷ 65 ∷ 1 ∷ 0 ∷ 12 ∷ 1 ∷ 66 ∷ 255 ∷ [])

-- three parts, one in each field, and a second 52 in file
abbrev pub everywhere : List ℕ
everywhere = with_fields (12 ∷ 1 ∷ 65 ∷ 52 ∷ 1 ∷ 3 ∷ 255 ∷ 12 ∷ []) (0 ∷ 12 ∷ 1 ∷ 66 ∷ 52 ∷ 1 ∷ 9 ∷ []) (12 ∷ 1 ∷ 67 ∷ 255 ∷ [])

-- RFC 3396, section 8: a boot file name in two parts. Here the first, "/diskle", stands in the options field, and the second, "ss/foo", in file
abbrev pub diskless : List ℕ
diskless =
    with_fields (52 ∷ 1 ∷ 1 ∷ 67 ∷ 7 ∷ 47 ∷ 100 ∷ 105 ∷ 115 ∷ 107 ∷ 108 ∷ 101 ∷ 255 ∷ [])
    (67 ∷ 6 ∷ 115 ∷ 115 ∷ 47 ∷ 102 ∷ 111 ∷ 111 ∷ 255 ∷ []) []

-- what they are joined to
abbrev pub PartsApart : Type 0
PartsApart =
    (find split_around 12 2 ≡ given (option 12 (65 ∷ 66 ∷ []) 2 248))
    × (find split_around 12 1 ≡ needs 2)
    × (entry split_around 1 0 ≡ given (option 1 [] 1 245))
    × (entry split_around 2 0 ≡ given (stop out 0))
    × (overload_of everywhere ≡ given 3)
    × (find everywhere 12 3 ≡ given (option 12 (65 ∷ 66 ∷ 67 ∷ []) 3 47))
    × (entry everywhere 1 2 ≡ given (option 52 (3 ∷ 9 ∷ []) 2 115))
    × (entries everywhere ≡ given (option 12 (65 ∷ 66 ∷ 67 ∷ []) 3 47 ∷ option 52 (3 ∷ 9 ∷ []) 2 115 ∷ []))
    × (find diskless 67 13
    ≡ given (option 67 (47 ∷ 100 ∷ 105 ∷ 115 ∷ 107 ∷ 108 ∷ 101 ∷ 115 ∷ 115 ∷ 47 ∷ 102 ∷ 111 ∷ 111 ∷ []) 2 116))

-- with another magic than the right one
abbrev pub other_magic : List ℕ
other_magic = made (replicate 4 0) (52 ∷ 1 ∷ 3 ∷ 12 ∷ 1 ∷ 65 ∷ 255 ∷ []) [] []

-- where a field ends: an option behind Pads is read, and one that fills a field without an End; nothing is behind an End; a field that 52 does
-- not name is not looked at; and with another magic there are no options. Parts without a byte need no room to join in
abbrev pub FieldsEnd : Type 0
FieldsEnd =
    (find (with_fields (52 ∷ 1 ∷ 3 ∷ 255 ∷ []) (0 ∷ 0 ∷ 0 ∷ 12 ∷ 2 ∷ 104 ∷ 105 ∷ 255 ∷ []) []) 12 0 ≡ given (option 12 (104 ∷ 105 ∷ []) 1 115))
    × (find (with_fields (52 ∷ 1 ∷ 1 ∷ []) (12 ∷ 126 ∷ replicate 126 7) []) 12 0 ≡ given (option 12 (replicate 126 7) 1 236))
    × (find (with_options (52 ∷ 1 ∷ 1 ∷ 255 ∷ 52 ∷ 0 ∷ [])) 52 0 ≡ given (option 52 (1 ∷ []) 1 243))
    × (find (with_fields (52 ∷ 1 ∷ 2 ∷ []) (12 ∷ 200 ∷ []) []) 12 0 ≡ given (stop out 0))
    × (find other_magic 12 0 ≡ given (stop out 0))
    × (entry other_magic 0 0 ≡ given (stop out 0))
    × (find (with_options (12 ∷ 0 ∷ 1 ∷ 0 ∷ 12 ∷ 0 ∷ [])) 12 0 ≡ given (option 12 [] 2 246))

-- 1 and 2 come before 6, and 6 before 15. 15: the options field is cut. 16: a 52 above 3, though file is cut; of two parts; of two bytes; of
-- none. 15: the last byte of file is a code; a cut file, though there is too little room for 12
abbrev pub ReadingsRefused : Type 0
ReadingsRefused =
    (find (replicate 239 0) 0 0 ≡ refused 1)
    × (find (replicate 65536 0) 0 0 ≡ refused 2)
    × (find (with_options (52 ∷ 0 ∷ 12 ∷ [])) 0 0 ≡ refused 6)
    × (find (with_options (52 ∷ 0 ∷ 12 ∷ [])) 12 0 ≡ refused 15)
    × (find (with_fields (52 ∷ 1 ∷ 4 ∷ []) (12 ∷ 200 ∷ []) []) 12 0 ≡ refused 16)
    × (find (with_options (52 ∷ 1 ∷ 1 ∷ 0 ∷ 52 ∷ 0 ∷ [])) 12 0 ≡ refused 16)
    × (find (with_options (52 ∷ 2 ∷ 1 ∷ 1 ∷ [])) 12 0 ≡ refused 16)
    × (find (with_options (52 ∷ 0 ∷ [])) 12 0 ≡ refused 16)
    × (find (with_fields (52 ∷ 1 ∷ 1 ∷ []) (replicate 127 0 ++ 12 ∷ []) []) 12 0 ≡ refused 15)
    × (find (with_fields (12 ∷ 1 ∷ 65 ∷ 12 ∷ 1 ∷ 66 ∷ 52 ∷ 1 ∷ 1 ∷ []) (12 ∷ 200 ∷ []) []) 12 0 ≡ refused 15)
