-- The message of the incident: 244 bytes whose hlen says 255. Its address is refused, and all else of it reads. With 283 bytes the same
-- hlen is shown (document 01, "Worked examples").
-- Assumes nothing.
use Rattle.std.specs.Prelude.{ℕ, ◌≡◌, true, false, List, [], ◌∷◌, ◌++◌, map, length, replicate, take, drop}
use Rattle.rfc.specs.Numbers.{Answer, given, refused, most_value}
use Rattle.rfc.specs.Header.{Part, part, op, htype, hlen, hops, xid, secs, flags, ciaddr, yiaddr, siaddr, giaddr, field, bytes_of, chaddr, sname, file, magic, options, area}
use Rattle.rfc.specs.Walk.{stop, end}
use Rattle.rfc.specs.Lists.{listing}

-- a reply with hlen n: zeros up to the magic, and these bytes behind it
abbrev pub reply : ℕ → List ℕ → List ℕ
reply n behind = 2 ∷ 1 ∷ n ∷ [] ++ replicate 233 0 ++ magic ++ behind

-- behind the magic stand one option and its End
abbrev pub incident : List ℕ
incident = reply 255 (53 ∷ 1 ∷ 5 ∷ 255 ∷ [])

-- the same with 39 bytes more
abbrev pub longer : List ℕ
longer = incident ++ replicate 39 7

-- the numbers of the fixed fields, one behind the other
abbrev pub fields : List ℕ → List (Answer ℕ)
fields m = map (λ (f : Part). field f m) (op ∷ htype ∷ hlen ∷ hops ∷ xid ∷ secs ∷ flags ∷ ciaddr ∷ yiaddr ∷ siaddr ∷ giaddr ∷ [])

-- the address is refused, and all else reads
abbrev pub Incident : Type 0
Incident =
    (length incident ≡ 244)
    × (chaddr incident ≡ refused 3)
    × (fields incident ≡ given 2 ∷ given 1 ∷ given 255 ∷ replicate 8 (given 0))
    × (sname incident ≡ given (part 44 0))
    × (file incident ≡ given (part 108 0))
    × (area incident ≡ given (options (part 240 4)))
    × (listing (bytes_of (part 240 4) incident) most_value
    ≡ record { options = record { code = 53; value = 5 ∷ [] } ∷ []; ending = given (stop end 4) })

-- all 255 bytes, the last of the message among them
abbrev pub LongerShows : Type 0
LongerShows =
    (length longer ≡ 283)
    × (chaddr longer ≡ given (record { shown = part 28 255; own = 16; spills = true }))
    × (bytes_of (part 28 255) longer ≡ drop 28 longer)

-- an address of 16 bytes is in its field, and one byte more spills. A message of 240 bytes shows one up to its last byte, and one byte
-- more is 3; 239 bytes are 1
abbrev pub AddressBounds : Type 0
AddressBounds =
    (chaddr (reply 16 []) ≡ given (record { shown = part 28 16; own = 16; spills = false }))
    × (chaddr (reply 17 []) ≡ given (record { shown = part 28 17; own = 16; spills = true }))
    × (chaddr (reply 212 []) ≡ given (record { shown = part 28 212; own = 16; spills = true }))
    × (chaddr (reply 213 []) ≡ refused 3)
    × (chaddr (take 239 (reply 212 [])) ≡ refused 1)
