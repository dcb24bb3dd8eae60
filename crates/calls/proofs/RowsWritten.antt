-- Rows written in one call: the writes of the options that they name, one behind the other.
-- Assumes nothing.
use mathlib.Core.Path.{◌≡◌, refl, sym, ap, ◌∙◌}
use Prim.Native.Nat.{ℕ, suc, ◌+◌, ◌≤◌, ◌<◌}
use native.Mathlib.Omega.{arith}
use mathlib.Core.List.{List, [], ◌∷◌}
use lib.ListN.{length, take, drop}
use Rattle.rfc.specs.Numbers.{Answer, given, refused, needs, most_bytes}
use Rattle.rfc.specs.Writing.{Write, answer_to, room_after, write_bytes, close}
use Rattle.rfc.specs.Lists.{Opt, Valid, Made, finished, write_all}
use Rattle.rfc.proofs.Numbers.{given_no}
use Rattle.rfc.proofs.Writing.{Alike, given_to, given_fits, given_keeps, never_needs}
use Rattle.rfc.proofs.Lists.{all_goes_on, all_ends_at, all_closes, all_not_closed}
use Rattle.options.specs.Rows.{write_row, all, rows_from}
use Rattle.options.proofs.Row.{row_bytes}
use Rattle.options.proofs.Runs.{no_row, row_goes_on}
use Rattle.calls.specs.Calls.{named, Stand}
use Rattle.calls.proofs.Made.{made_same}

-- all rows are written, and what is left to do is to close
pub record Rowed (index : ℕ) (rows values room : List ℕ) (place : ℕ) (m : Made) : Type 0 where
  pub room₁ : List ℕ
  pub to : ℕ
  pub written : rows_from index rows values room place ≡ all (index + length (named rows values)) room₁ to
  pub closes : write_all [] room₁ to ≡ given m

-- no whole row
none_left : (index : ℕ) (rows values room : List ℕ) (place : ℕ) (m : Made) → length rows < 3 → named rows values ≡ []
    → write_all (named rows values) room place ≡ given m → Rowed index rows values room place m
none_left index rows values room place m h n e =
    let z : index ≡ index + length (named rows values) = omega (arith, ap length n) in
    record {
      room₁ = room;
      to = place;
      written = no_row index rows values room place h ∙ ap (λ (k : ℕ). all k room place) z;
      closes = ap (λ (os : List Opt). write_all os room place) (sym n) ∙ e;
    }

-- a row, and the rest behind it
module _ (index code start len : ℕ) (rows values room : List ℕ) (place : ℕ) (m : Made) (inside : start + len ≤ length values)
    (byte : code ≤ 255) (short : length room ≤ most_bytes) (within : place ≤ length room) where
  abbrev row : Write
  row = write_row code start len values

  abbrev o : Opt
  o = record { code = code; value = take len (drop start values) }

  alike : Alike row (write_bytes code (take len (drop start values)) room place) room place
  alike = row_bytes code start len values room place inside byte short within

  row_first : write_all (o ∷ named rows values) room place ≡ given m
      → ((room₁ : List ℕ) (to : ℕ) → length room₁ ≤ most_bytes → to ≤ length room₁ → write_all (named rows values) room₁ to ≡ given m
      → Rowed (suc index) rows values room₁ to m)
      → Rowed index (code ∷ start ∷ len ∷ rows) values room place m
  row_first e rest = go (answer_to row room place) refl
    where
      go : (a : Answer ℕ) → answer_to row room place ≡ a → Rowed index (code ∷ start ∷ len ∷ rows) values room place m
      go (given to) is =
          let keeps = given_keeps row room place to is in
          let more =
          rest (room_after row room place) to (omega (arith, keeps))
          (omega (arith, keeps, given_to row room place to is, given_fits row room place to is))
          (sym (all_goes_on room place o (named rows values) (sym alike.0 ∙ is) (sym alike.1)) ∙ e) in
          let count : suc index + length (named rows values) ≡ index + suc (length (named rows values)) = omega arith in
          record {
            room₁ = more.room₁;
            to = more.to;
            written =
                row_goes_on index code start len rows values room place is
                ∙ more.written
                ∙ ap (λ (k : ℕ). all k more.room₁ more.to) count;
            closes = more.closes;
          }
      go (refused k) is = absurd (given_no m k (sym e ∙ all_ends_at room place o (named rows values) (sym alike.0 ∙ is)))
      go (needs n) is = absurd (never_needs row room place n is)

-- where the list that rows name can be written and closed, they are written
pub all_rowed : (index : ℕ) (rows values room : List ℕ) (place : ℕ) (m : Made) → Stand rows values → Valid (named rows values)
    → length room ≤ most_bytes → place ≤ length room → write_all (named rows values) room place ≡ given m
    → Rowed index rows values room place m
all_rowed index [] values room place m s v short within e = none_left index [] values room place m (omega arith) refl e
all_rowed index (a ∷ []) values room place m s v short within e = none_left index (a ∷ []) values room place m (omega arith) refl e
all_rowed index (a ∷ b ∷ []) values room place m s v short within e = none_left index (a ∷ b ∷ []) values room place m (omega arith) refl e
all_rowed index (code ∷ start ∷ len ∷ rows) values room place m s v short within e =
    row_first index code start len rows values room place m s.0 (omega (arith, v.0.high)) short within e
    (λ room₁ to h g f. all_rowed (suc index) rows values room₁ to m s.1 v.2 h g f)

-- a list with nothing left is closed
pub closes_so : (room : List ℕ) (place : ℕ) (room' : List ℕ) (to : ℕ) → write_all [] room place ≡ finished room' to
    → (answer_to (close room place) room place ≡ given to) × (room_after (close room place) room place ≡ room')
closes_so room place room' to e = go (answer_to (close room place) room place) refl
  where
    go : (a : Answer ℕ) → answer_to (close room place) room place ≡ a
        → (answer_to (close room place) room place ≡ given to) × (room_after (close room place) room place ≡ room')
    go (given at) is =
        let f = made_same (sym (all_closes room place is refl) ∙ e) in (is ∙ ap (λ (k : ℕ). given k) f.1, f.0)
    go (refused k) is = absurd (given_no _ k (sym e ∙ all_not_closed room place is))
    go (needs n) is = absurd (never_needs (close room place) room place n is)
