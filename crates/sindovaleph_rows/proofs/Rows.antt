-- The laws of `specs/Listing.antt`, of one row: its columns, what an option reads as unjoined, and its numbers.
-- Assumes nothing.
use mathlib.Core.Path.{◌≡◌, refl, sym, ap, subst, ◌∙◌}
use Prim.Native.Nat.{ℕ, ◌-◌, ◌≤◌, ◌<◌}
use native.Mathlib.Omega.{arith}
use native.Mathlib.Decide.{dec_le}
use mathlib.Core.List.{List, [], ◌∷◌, ◌++◌}
use lib.ListN.{length, take, drop, length-drop}
use lib.Seq.{length-take-le}
use Rattle.facts.proofs.Cells.{stores, stores_over}
use Rattle.facts.specs.Over.{over}
use Rattle.facts.proofs.Over.{over_all, over_over, length_over}
use Rattle.rfc.specs.Numbers.{Answer, given, needs, and_then}
use Rattle.rfc.specs.Walk.{Found, option, room_for}
use Rattle.rfc.specs.Values.{Mode, read}
use Rattle.rfc.specs.Values as rfc
use Rattle.rfc.proofs.Numbers.{given_goes_on, needs_stands}
use Rattle.rfc.proofs.Walk.{one_answered, answered, many_needs}
use Rattle.rfc.proofs.Places.{Stands}
use Rattle.std.specs.Prelude.{Result, Err}
use Rattle.refusal.specs.declared.Refusal.{Refusal}
use Rattle.refusal.specs.declared.Refusal.TheVariants.{JoinTooShort}
use Rattle.borrowed.specs.declared.answer.Found as here
use Rattle.values.specs.Reading.{ReadAs}
use Rattle.values.specs.declared.answer.Value.{Value}
use Rattle.crossing.specs.Carried.{value_of, reading_here}
use Rattle.crossing.specs.declared.answers.Value as crossing
use Rattle.crossing.proofs.Carries.{reading_crosses}
use Rattle.sindovaleph_rows.specs.Listing.{Columns, found, typed, width, row_of, value_row, read_unjoined}
use Rattle.sindovaleph_rows.specs.Listing.{bytes_before, bytes_of, front_of, Inside, row_found}

-- a row has four numbers or more, and as many as it is wide
pub four : (c : Columns) → 4 ≤ width c
four found = omega arith
four (typed mode) = omega arith

pub length_row : (c : Columns) (code : ℕ) (v : List ℕ) (n at : ℕ) → length (row_of c code v n at) ≡ width c
length_row found code v n at = refl
length_row (typed mode) code v n at = refl

-- what an option reads as where nothing can be joined
module _ (mode : Mode) (code : ℕ) (v : List ℕ) (n at : ℕ) where
  reads : Found → Answer rfc.Value
  reads f = read mode code v

  unjoined_many : 1 < n → 0 < length v → read_unjoined mode code v n at ≡ needs (length v)
  unfolding read_unjoined reads
  unjoined_many h g = ap (λ (a : Answer Found). and_then a reads) (many_needs 0 code v n at h g) ∙ needs_stands reads (length v)

  unjoined_read : (1 < n → length v ≤ 0) → read_unjoined mode code v n at ≡ read mode code v
  unfolding read_unjoined reads
  unjoined_read h = ap (λ (a : Answer Found). and_then a reads) (go (dec_le n 1)) ∙ given_goes_on reads _
    where
      go : Dec (n ≤ 1) → room_for 0 (option code v n at) ≡ given (option code v n at)
      go (yes g) = one_answered 0 code v n at g
      go (no g) = answered 0 code v n at (h (omega arith))

-- the bytes before a place, by their length and as a part of the area
module _ {area : List ℕ} {len place : ℕ} (i : Inside area len place) where
  pub length_before : length (bytes_before area len place) ≡ len
  unfolding bytes_before
  length_before =
      length-take-le len (drop (place - len) area) (omega (arith, i.long, i.within, length-drop (place - len) area))

  part_before : take (place - (place - len)) (drop (place - len) area) ≡ bytes_before area len place
  unfolding bytes_before
  part_before =
      let l : place - (place - len) ≡ len = omega (arith, i.long) in
      ap (λ (k : ℕ). take k (drop (place - len) area)) l

  -- what an option of two parts or more, with these for its value, reads as
  pub before_needs : (mode : Mode) (code n : ℕ) → 1 < n → 0 < len → read_unjoined mode code (bytes_before area len place) n place ≡ needs len
  before_needs mode code n h g =
      unjoined_many mode code (bytes_before area len place) n place h (omega (arith, length_before)) ∙ ap (λ (k : ℕ). needs k) length_before

  -- and of one that needs no joining
  pub before_reads : (mode : Mode) (code n : ℕ) → (1 < n → len ≤ 0)
      → read_unjoined mode code (bytes_before area len place) n place
      ≡ read mode code (take (place - (place - len)) (drop (place - len) area))
  before_reads mode code n h =
      unjoined_read mode code (bytes_before area len place) n place (λ g. let e = h g in omega (arith, length_before))
      ∙ ap (read mode code) (sym part_before)

  -- so it is read, or refused where it would have to be joined
  pub reads_needs : (mode : Mode) (code n : ℕ) → 1 < n → 0 < len
      → ReadAs (bytes_before area len place) (read_unjoined mode code (bytes_before area len place) n place) (Err (JoinTooShort len))
  reads_needs mode code n h g = sym (before_needs mode code n h g)

  pub reads_part : (mode : Mode) (code n : ℕ) → (1 < n → len ≤ 0) → (r : Result Value Refusal)
      → ReadAs (take (place - (place - len)) (drop (place - len) area)) (read mode code (take (place - (place - len)) (drop (place - len) area))) r
      → ReadAs (bytes_before area len place) (read_unjoined mode code (bytes_before area len place) n place) r
  reads_part mode code n h r t =
      subst (λ (v : List ℕ). ReadAs v (read_unjoined mode code (bytes_before area len place) n place) r) part_before
      (subst (λ (a : Answer rfc.Value). ReadAs (take (place - (place - len)) (drop (place - len) area)) a r) (sym (before_reads mode code n h)) t)

-- the numbers of an option whose bytes are there are its row: four, and four more for what it reads as
module _ {area : List ℕ} {f : here.Found} (i : Inside area f.len f.place) where
  pub row_4 : (row : List ℕ) {row' : List ℕ} → length row ≡ 4 → row' ≡ over row 0 (front_of f) → row' ≡ row_found found area f
  row_4 row l e = e ∙ over_all row (front_of f) (omega (arith, l)) ∙ ap (λ (k : ℕ). front_of (record f { len = k })) (sym (length_before i))

  module _ (mode : Mode) (r : Result Value Refusal) {v : crossing.Value}
      (t : ReadAs (bytes_of area f) (read_unjoined mode f.code (bytes_of area f) f.parts f.place) r) (e : v ≡ reading_here r) where
    pub row_8 : (row : List ℕ) {row' : List ℕ} → length row ≡ 8 → row' ≡ over row 0 (front_of f) → stores row' 4 (value_row v) ≡ row_found (typed mode) area f
    row_8 row {row'} l w =
        let k : length row' ≡ 8 = omega (arith, ap length w, length_over row 0 (front_of f) (omega (arith, l))) in
        let is = e ∙ reading_crosses _ _ r t in
        stores_over row' 4 (value_row v) (omega (arith, k))
        ∙ ap (λ (d : List ℕ). over d 4 (value_row v)) w
        ∙ over_over row 0 (front_of f) (value_row v) (omega (arith, l))
        ∙ over_all row (front_of f ++ value_row v) (omega (arith, l))
        ∙ (λ j. front_of (record f { len = sym (length_before i) j }) ++ value_row (is j))

-- the row of an option that stands in the area is that of the bytes before its place
module _ (area : List ℕ) (code : ℕ) (v : List ℕ) (n at : ℕ) (s : Stands area code v n at) where
  pub inside : Inside area (length v) at
  inside = record { long = omega (arith, s.fits); within = s.within }

  abbrev before : List ℕ
  before = bytes_before area (length v) at

  empty : (l : List ℕ) → length l ≤ 0 → l ≡ []
  empty [] h = refl
  empty (x ∷ l) h = absurd (let f : ⊥ = omega arith in f)

  reads_alike : (mode : Mode) → read_unjoined mode code before n at ≡ read_unjoined mode code v n at
  unfolding bytes_before
  reads_alike mode = go (dec_le n 1) (dec_le (length v) 0)
    where
      long : length before ≡ length v
      long = length_before inside

      same : before ≡ v → read_unjoined mode code before n at ≡ read_unjoined mode code v n at
      same e = ap (λ (l : List ℕ). read_unjoined mode code l n at) e

      go : Dec (n ≤ 1) → Dec (length v ≤ 0) → read_unjoined mode code before n at ≡ read_unjoined mode code v n at
      go (yes h) d = same (sym (s.one (omega (arith, s.some))))
      go (no h) (yes e) = same (empty before (omega (arith, long)) ∙ sym (empty v e))
      go (no h) (no e) =
          unjoined_many mode code before n at (omega arith) (omega (arith, long))
          ∙ ap (λ (k : ℕ). needs k) long
          ∙ sym (unjoined_many mode code v n at (omega arith) (omega arith))

  pub row_alike : (c : Columns) → row_of c code before n at ≡ row_of c code v n at
  row_alike found = ap (λ (k : ℕ). code ∷ n ∷ k ∷ at ∷ []) (length_before inside)
  row_alike (typed mode) = λ i. (code ∷ n ∷ length_before inside i ∷ at ∷ []) ++ value_row (value_of (reads_alike mode i))
