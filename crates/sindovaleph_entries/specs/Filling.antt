-- Between the functions of the crate: how parts are put into the rows of their codes.
-- Assumes nothing.
use Rattle.std.specs.Prelude.{ℕ, ◌+◌, ◌-◌, ◌*◌, ◌/◌, ◌≤◌, ◌<◌, ◌≡◌, cond, List, [], ◌∷◌, eqb, leb, ltb, length, drop, get_or}
use Rattle.facts.specs.Over.{over}
use Rattle.facts.proofs.Marks.{Marked}
use Rattle.rfc.specs.Numbers.{most_bytes}
use Rattle.rfc.specs.Portions.{Portion, whole, portions, joined_value}
use Rattle.rfc.specs.Aggregate.{fields_of, aggregate, codes_of, options_from}
use Rattle.rfc.proofs.Listed.{Coded}
use Rattle.sindovaleph_entries.specs.Rows.{entry_rows}

-- a mark for each code, 0 or 1 more than its row's index; the rows; how many codes there are
pub record Sheet : Type 0 where
  pub marks : List ℕ
  pub rows : List ℕ
  pub codes : ℕ

abbrev pub sheet : List ℕ → List ℕ → ℕ → Sheet
sheet marks rows codes = record { marks = marks; rows = rows; codes = codes }

-- the row of a code's first part
abbrev pub first_row : ℕ → ℕ → ℕ → List ℕ
first_row code len place = code ∷ 1 ∷ len ∷ place ∷ []

-- the first part of a code: its mark, and its row where there is room
unfoldable pub begins : Sheet → ℕ → ℕ → ℕ → Sheet
begins s code len place =
    sheet (over s.marks code ((s.codes + 1) ∷ []))
    (cond (ltb s.codes (length s.rows / 4)) (over s.rows (4 * s.codes) (first_row code len place)) s.rows)
    (s.codes + 1)

-- a further part of the code whose row begins at a place
unfoldable pub extended : List ℕ → ℕ → ℕ → ℕ → ℕ → List ℕ
extended rows row code len place = over rows row (code ∷ (get_or rows (row + 1) 0 + 1) ∷ (get_or rows (row + 2) 0 + len) ∷ place ∷ [])

-- a part put into its row
unfoldable pub puts : Sheet → ℕ → ℕ → ℕ → Sheet
puts s code len place =
    let mark : ℕ = get_or s.marks code 0 in
    cond (eqb mark 0) (begins s code len place)
    (sheet s.marks (cond (leb mark (length s.rows / 4)) (extended s.rows (4 * (mark - 1)) code len place) s.rows) s.codes)

-- part after part
unfoldable pub fills : Sheet → List Portion → Sheet
fills s [] = s
fills s (p ∷ ps) = fills (puts s p.code (length p.value) p.place) ps

-- the sheet behind some parts, of rows that were lent
pub record Holds (lent : List ℕ) (ps : List Portion) (s : Sheet) : Type 0 where
  pub each : length s.marks ≡ 256
  pub marked : Marked (λ (i : ℕ). i + 1) (codes_of ps) s.marks
  pub filled : s.rows ≡ over lent 0 (entry_rows (length lent / 4) (options_from ps))
  pub counted : s.codes ≡ length (codes_of ps)

-- a part can be put: its code finds a mark in a byte, and the sums of its row stay small
pub record Puts (s : Sheet) (code len : ℕ) : Type 0 where
  pub lent : List ℕ
  pub before : List Portion
  pub holds : Holds lent before s
  pub small : get_or s.marks code 0 ≡ 0 → s.codes < 254
  pub few : length before + length (joined_value before) + len ≤ 4 * most_bytes

-- a row that is there, whose sums stay small
pub record Extends (rows : List ℕ) (row len : ℕ) : Type 0 where
  pub there : row + 4 ≤ length rows
  pub parts : get_or rows (row + 1) 0 ≤ 4 * most_bytes
  pub value : get_or rows (row + 2) 0 + len ≤ 4 * most_bytes

-- so can the parts of a field, which is whole
pub record Fills (bytes : List ℕ) (start : ℕ) (s : Sheet) : Type 0 where
  pub lent : List ℕ
  pub before : List Portion
  pub holds : Holds lent before s
  pub coded : Coded before
  pub parts : List Portion
  pub uncut : portions start (drop start bytes) ≡ whole parts
  pub few : length before + length (joined_value before) + length bytes ≤ 4 * most_bytes

-- all parts of a message
pub record FillsAll (message rows rows' : List ℕ) (codes : ℕ) : Type 0 where
  pub kept : rows' ≡ over rows 0 (entry_rows (length rows / 4) (options_from (aggregate (fields_of message))))
  pub told : codes ≡ length (codes_of (aggregate (fields_of message)))
