-- What document 02 promises of RFC 3396's reading, its ticket 1: "We want RFC 3396's reading as a mode beside the crate's: the options field,
-- then file, then sname, where option 52 of the options field is 1 (file), 2 (sname) or 3 (both)."
-- `find` answers for a code, `entry` for an index, and `entries` for all at once.
-- Assumes nothing.
use Rattle.std.specs.Prelude.{ℕ, ◌+◌, ◌≤◌, ◌<◌, ◌≡◌, true, false, List, ◌∷◌, length, take, drop, get_or}
use Rattle.rfc.specs.Numbers.{Answer, given, needs, most_bytes, first_refusal}
use Rattle.rfc.specs.Walk.{Found, Stop, stop, option, out, room_for, join_after}
use Rattle.rfc.specs.Lists.{Bytes, listing}
use Rattle.rfc.specs.Portions.{Portion, portions, is_cut, parts_in, of_code, joined_value}
use Rattle.rfc.specs.Aggregate.{OptionFields, overloads, unclear_overload, overload, aggregate, codes_of, aggregate_checks, find_checks, find, entry, entries}
use Rattle.rfc.specs.Modes.{values_in, EndsCut, EndsWhole}
use Rattle.promises.specs.Order.{InOrder}
use Rattle.promises.specs.Refusals.{Refusal}

-- "Refusals: 15 when the options field is cut; 16 ..; 15 when a field that 52 names is cut; then 5 for the code answered": the checks stand
-- in document 01's order, into which 15, 16 and 15 go before 5; and 5 is given only where none of them refuses
abbrev pub AggregateOrder : Type 0
AggregateOrder =
    (message : List ℕ) (code index room n : ℕ)
    → InOrder (find_checks message code)
    × InOrder (aggregate_checks message)
    × (find message code room ≡ needs n → first_refusal (find_checks message code) ≡ 0)
    × (entry message index room ≡ needs n → first_refusal (aggregate_checks message) ≡ 0)

-- "a mode beside the crate's": both see the same parts of one field. It is cut exactly where the walk's first stop is a cut one; else the
-- joined value of each code is what the walk lists of it up to its first stop, joined
abbrev pub BothModes : Type 0
BothModes =
    (area : List ℕ) (at join : ℕ)
    → length area ≤ most_bytes
    → length area ≤ join
    → (is_cut (portions at area) ≡ true → EndsCut (listing area join).ending)
    × (is_cut (portions at area) ≡ false
    → EndsWhole (listing area join).ending
    × ((code : ℕ) → joined_value (of_code code (parts_in (portions at area))) ≡ values_in code (listing area join).options))

-- "codes are listed by first appearance": none twice
abbrev pub ListedOnce : Type 0
ListedOnce =
    (f : OptionFields) (i j : ℕ)
    → i < length (codes_of (aggregate f))
    → j < length (codes_of (aggregate f))
    → get_or (codes_of (aggregate f)) i 0 ≡ get_or (codes_of (aggregate f)) j 0
    → i ≡ j

-- and each that has a part
abbrev pub ListedAll : Type 0
ListedAll =
    (f : OptionFields) (code : ℕ) (p : Portion) (ps : List Portion)
    → of_code code (aggregate f) ≡ p ∷ ps
    → (i : ℕ) × (i < length (codes_of (aggregate f))) × (get_or (codes_of (aggregate f)) i 0 ≡ code)

-- what is listed at an index is what its code is found as
abbrev pub ListedIsFound : Type 0
ListedIsFound =
    (message : List ℕ) (index room code : ℕ) (v : List ℕ) (n at : ℕ)
    → entry message index room ≡ given (option code v n at)
    → find message code room ≡ given (option code v n at)

-- index by index it is the listing at once, where there is room to join in, and behind the last option there is no more
abbrev pub ListedAtOnce : Type 0
ListedAtOnce =
    (message : List ℕ) (os : List Found) (index room : ℕ)
    → entries message ≡ given os
    → (entry message index room ≡ room_for room (get_or os index (stop out 0)))
    × (length os ≤ index → entry message index room ≡ given (stop out 0))

-- a message has at most 254 codes, so 254 rows take the listing of every message
abbrev pub ListedFew : Type 0
ListedFew = (message : List ℕ) (os : List Found) → Bytes message → entries message ≡ given os → length os ≤ 254

-- "A 52 inside file or sname is listed like any code and steers nothing": which fields are read, and whether that is unclear, is said by the
-- options field alone
abbrev pub OptionsSteer : Type 0
OptionsSteer =
    (f g : OptionFields)
    → f.options ≡ g.options
    → (overload f ≡ overload g) × (unclear_overload (overloads f) ≡ unclear_overload (overloads g))

-- a value of one part is shown where it stands in the message: it is the bytes before the option's place
abbrev pub ShownInPlace : Type 0
ShownInPlace =
    (message : List ℕ) (code room : ℕ) (v : List ℕ) (at : ℕ)
    → find message code room ≡ given (option code v 1 at)
    → (start : ℕ) × (start + length v ≡ at) × (at ≤ length message) × (take (length v) (drop start message) ≡ v)

-- a join buffer of the message's length suffices for every code and every index
abbrev pub JoinSuffices : Type 0
JoinSuffices =
    (message : List ℕ) (code index room n : ℕ)
    → length message ≤ room
    → (find message code room ≡ needs n → ⊥) × (entry message index room ≡ needs n → ⊥)

-- a refusal leaves the join buffer as it is, and so does the answer that there is no such option
abbrev pub Kept : Answer Found → List ℕ → Type 0
Kept answer join =
    (Refusal answer → join_after answer join ≡ join)
    × ((s : Stop) (at : ℕ) → answer ≡ given (stop s at) → join_after answer join ≡ join)

abbrev pub AggregateKeeps : Type 0
AggregateKeeps =
    (message join : List ℕ) (code index : ℕ) → Kept (find message code (length join)) join × Kept (entry message index (length join)) join
