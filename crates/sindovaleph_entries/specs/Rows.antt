-- The options of a message in RFC 3396's reading, listed in one call, a row of numbers for each.
-- Assumes nothing.
use Rattle.std.specs.Prelude.{ℕ, ◌/◌, ◌≡◌, length, take}
use mathlib.Core.List.{List, [], ◌∷◌, map, flatten}
use Rattle.facts.specs.Over.{over}
use Rattle.rfc.specs.Numbers.{Answer, given, refused, needs}
use Rattle.rfc.specs.Walk.{Found, stop, option}
use Rattle.rfc.specs.Aggregate as rfc
use Rattle.sindovaleph_entries.specs.declared.Entries.{Entries}

-- the numbers of a row are those of `Step` for an option: its code, its parts, the length of its value, the place behind its last part
unfoldable pub entry_row : Found → List ℕ
entry_row (stop s at) = []
entry_row (option code v n at) = code ∷ n ∷ length v ∷ at ∷ []

-- the rows of the first so many options, one behind the other
unfoldable pub entry_rows : ℕ → List Found → List ℕ
entry_rows k options = flatten (map entry_row (take k options))

-- what crosses
abbrev pub entries_of : Answer (List Found) → Entries
entries_of (given options) = record { refused = 0; codes = length options }
entries_of (refused k) = record { refused = k; codes = 0 }
entries_of (needs n) = record { refused = 5; codes = 0 }

-- what the lent rows then hold: as many whole rows as there are options, or as there is room for
abbrev pub entries_after : Answer (List Found) → List ℕ → List ℕ
entries_after (given options) rows = over rows 0 (entry_rows (length rows / 4) options)
entries_after (refused k) rows = rows
entries_after (needs n) rows = rows

-- a listing of a message, from lent rows to rows', answers r
pub record ListsEntries (message rows rows' : List ℕ) (r : Entries) : Type 0 where
  pub told : r ≡ entries_of (rfc.entries message)
  pub kept : rows' ≡ entries_after (rfc.entries message) rows
