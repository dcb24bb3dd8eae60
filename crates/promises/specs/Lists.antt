-- Demand 3, in its three parts.
-- A list's bytes, `encode_all`, are its options as byte values, one behind the other, and an End; `write_all` is what the writers do with it;
-- `listing` is what call after call of the walk gives, up to the first answer that is no option.
-- Assumes nothing.
use Rattle.std.specs.Prelude.{ℕ, ◌+◌, ◌≤◌, ◌≡◌, List, ◌++◌, length, drop}
use Rattle.facts.specs.Over.{over}
use Rattle.rfc.specs.Numbers.{given, most_bytes, most_value}
use Rattle.rfc.specs.Walk.{stop, end}
use Rattle.rfc.specs.Lists.{Opt, Valid, Bytes, encode_all, finished, write_all, Listing, listing, Ending}

-- the walk lists exactly these options and stops at the End that ends there
abbrev pub listed : List Opt → ℕ → Listing
listed options at = record { options = options; ending = given (stop end at) }

-- "Take any list of options: codes 1 to 254, values of 1 to 4,080 bytes, no two neighbours with one code. Write it as byte values, close it
-- with End, all within 65,535 bytes and the lent room. Put any bytes behind it, up to 65,535 in all. With 4,080 bytes to join in, the walk
-- lists exactly those options and stops at that End."
pub record ThereAndBack (options : List Opt) (room behind : List ℕ) (place join : ℕ) : Type 0 where
  -- the writers put the list's bytes at the place, and nothing else changes
  pub written : write_all options room place ≡ finished (over room place (encode_all options)) (place + length (encode_all options))
  -- those bytes are walked as the list, whatever stands behind them
  pub walked : listing (encode_all options ++ behind) join ≡ listed options (length (encode_all options))
  -- and so is the room itself, from the place on, with what it held behind them
  pub in_the_room : listing (drop place (over room place (encode_all options))) join ≡ listed options (length (encode_all options))

abbrev pub RoundTrip : Type 0
RoundTrip =
    (options : List Opt) (room behind : List ℕ) (place join : ℕ)
    → Valid options
    → length room ≤ most_bytes
    → place + length (encode_all options) ≤ length room
    → length (encode_all options ++ behind) ≤ most_bytes
    → most_value ≤ join
    → ThereAndBack options room behind place join

-- "Lists" is whole: whatever the area, its listing ends with a stop or a refusal, and never because of a bound of its own
abbrev pub ListingsEnd : Type 0
ListingsEnd = (area : List ℕ) (join : ℕ) → Ending (listing area join).ending

-- "So of two different lists, neither's bytes begin the other's."
abbrev pub Begins : List ℕ → List ℕ → Type 0
Begins a b = (rest : List ℕ) × (b ≡ a ++ rest)

abbrev pub NeitherBegins : Type 0
NeitherBegins =
    (one other : List Opt)
    → Valid one
    → Valid other
    → length (encode_all one) ≤ most_bytes
    → length (encode_all other) ≤ most_bytes
    → (one ≡ other → ⊥)
    → (Begins (encode_all one) (encode_all other) → ⊥) × (Begins (encode_all other) (encode_all one) → ⊥)

-- "No area in which the walk lists the same codes and values, then makes its first stop at an End, reaches that End in fewer bytes."
abbrev pub FewestBytes : Type 0
FewestBytes =
    (options : List Opt) (area : List ℕ) (join at : ℕ)
    → Bytes area
    → listing area join ≡ listed options at
    → length (encode_all options) ≤ at
