-- The room that a listing takes: 65,535 bytes, the most that a room may have, are room for the listing of any message, and for that in RFC
-- 3396's reading.
-- Assumes nothing.
use Rattle.std.specs.Prelude.{ℕ, ◌≤◌, ◌≡◌, List, length}
use Rattle.rfc.specs.Numbers.{most_bytes}
use Rattle.rfc.specs.Lists.{Bytes}
use Rattle.rfc.specs.Writing.{into_room}
use Rattle.lines.specs.Listing.{listing}
use Rattle.joined_lines.specs.Joined.{joined_listing}
use Rattle.crossing.specs.Carried.{Wrote}
use Rattle.crossing.specs.declared.answers.Written.{Written}

abbrev pub ListingFits : Type 0
ListingFits = (message : List ℕ) → Bytes message → length (listing message) ≤ most_bytes

abbrev pub JoinedFits : Type 0
JoinedFits = (message : List ℕ) → Bytes message → length (joined_listing message) ≤ most_bytes

-- so `sindovaleph_write_listing` refuses nothing there, at place 0
abbrev pub AlwaysListed : Type 0
AlwaysListed =
    (message room room' : List ℕ) (r : Written)
    → Bytes message
    → length room ≡ most_bytes
    → Wrote (into_room (listing message) room 0) room room' 0 r
    → r ≡ record { refused = 0; place = length (listing message) }
