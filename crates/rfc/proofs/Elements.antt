-- The laws of `specs/Values.antt`, of lists: how many elements there are, and the one at an index.
-- Assumes nothing.
use mathlib.Core.Path.{◌≡◌, refl, sym, ap, ◌∙◌}
use Prim.Native.Nat.{ℕ, suc, ◌+◌, ◌*◌, ◌/◌, ◌%◌, ◌≤◌, ◌<◌}
use mathlib.Core.Bool.{false}
use mathlib.Core.List.{List, [], ◌∷◌}
use native.Mathlib.Omega.{arith}
use native.Mathlib.Nat.{div-add-mod', mul_assoc, mul-one}
use borrow.Author.Tests.{lt-leb, le-leb, eqb-true, not-false}
use lib.Dec.{lit<}
use lib.ListN.{length, take, drop, get_or, get_or-map, length-map}
use lib.Seq.{drop-cons}
use Rattle.facts.specs.BigEndian.{number}
use Rattle.facts.specs.Pieces.{pieces}
use Rattle.facts.specs.Ranges.{lookup, within}
use Rattle.facts.proofs.Pieces.{piece_at, count_whole}
use Rattle.rfc.specs.Numbers.{Answer, given, refused, and_then, checked, no_element}
use Rattle.rfc.specs.Kinds.{size_of, sizes}
use Rattle.rfc.specs.Values.{numbers, Value, numbers_of, width_of, value_of, plain, rules, rule_for, wrong_length, elements, element_at, element}
use Rattle.rfc.proofs.Numbers.{refused_stands}
use Rattle.rfc.proofs.Values.{Listed, addresses, codes, listed_value, pairs, u16s, value}

-- a list by its kind: its sizes, its elements, and that a right length leaves no rest
record Is {kind width n : ℕ} (k : Listed kind width n) : Type 0 where
  size : (size_of kind ≡ n * width) × (0 < width) × (0 < n)
  some : 0 < size_of kind
  cuts : (l : List ℕ) → elements (value kind (numbers l)) ≡ pieces n l
  rest : (v : List ℕ) → wrong_length plain kind v ≡ false → length v % size_of kind ≡ 0

is : {kind width n : ℕ} (k : Listed kind width n) → Is k
unfolding elements width_of wrong_length rule_for rules lookup within size_of sizes
is addresses = record { size = (refl, lit< tt, lit< tt); some = lit< tt; cuts = λ l. refl; rest = λ v e. eqb-true _ 0 (not-false _ e) }
is pairs = record { size = (refl, lit< tt, lit< tt); some = lit< tt; cuts = λ l. refl; rest = λ v e. eqb-true _ 0 (not-false _ e) }
is u16s = record { size = (refl, lit< tt, lit< tt); some = lit< tt; cuts = λ l. refl; rest = λ v e. eqb-true _ 0 (not-false _ e) }
is codes = record { size = (refl, lit< tt, lit< tt); some = lit< tt; cuts = λ l. refl; rest = λ v e. eqb-true _ 0 (not-false _ e) }

pub listed_size : {kind width n : ℕ} → Listed kind width n → (size_of kind ≡ n * width) × (0 < width) × (0 < n)
listed_size k = (is k).size

pub listed_some : {kind width n : ℕ} → Listed kind width n → 0 < size_of kind
listed_some k = (is k).some

-- the number at an index of some numbers
number_at : (width : ℕ) → 0 < width → (v : List ℕ) (k : ℕ) → get_or (numbers_of width v) k 0 ≡ number (take width (drop (k * width) v))
unfolding numbers_of
number_at width some v k = get_or-map number (pieces width v) k [] ∙ ap number (piece_at width some k v)

module _ {kind width n : ℕ} (k : Listed kind width n) (v : List ℕ) (right : wrong_length plain kind v ≡ false) where
  abbrev count : ℕ
  count = length v / size_of kind

  -- so many numbers, and so many elements
  all_numbers : length (numbers_of width v) ≡ count * n
  unfolding numbers_of
  all_numbers =
      let s = listed_size k in
      let whole : length v ≡ count * size_of kind =
      sym (omega (arith, div-add-mod' (length v) (size_of kind), (is k).rest v right)) in
      length-map (pieces width v) number
      ∙ count_whole width s.1 v (count * n)
      (whole ∙ ap (λ (m : ℕ). count * m) s.0 ∙ sym (mul_assoc count n width))

  pub listed_count : length (elements (value_of kind v)) ≡ count
  listed_count =
      rw (listed_value v k, (is k).cuts (numbers_of width v)) (count_whole n (listed_size k).2 (numbers_of width v) count all_numbers)

  -- the numbers of one element
  entries : (index : ℕ) → get_or (elements (value_of kind v)) index [] ≡ take n (drop (index * n) (numbers_of width v))
  entries index = rw (listed_value v k, (is k).cuts (numbers_of width v)) (piece_at n (listed_size k).2 index (numbers_of width v))

-- an element of one number, and a pair
pub one_entry : {kind width : ℕ} (k : Listed kind width 1) (v : List ℕ) → wrong_length plain kind v ≡ false → (index : ℕ)
    → index < length v / size_of kind → get_or (elements (value_of kind v)) index [] ≡ number (take width (drop (index * width) v)) ∷ []
one_entry {width = width} k v right index h =
    let there : index < length (numbers_of width v) = omega (arith, all_numbers k v right) in
    entries k v right index ∙ rw (mul-one, drop-cons (numbers_of width v) index 0 there, number_at width (listed_size k).1 v index)

pub pair_entries : (v : List ℕ) → wrong_length plain 3 v ≡ false → (index : ℕ) → index < length v / size_of 3
    → get_or (elements (value_of 3 v)) index []
    ≡ number (take 4 (drop (index * 8) v)) ∷ number (take 4 (drop (index * 8 + 4) v)) ∷ []
pair_entries v right index h =
    let l : List ℕ = numbers_of 4 v in
    let many = all_numbers pairs v right in
    let first : index * 2 * 4 ≡ index * 8 = omega arith in
    let second : suc (index * 2) * 4 ≡ index * 8 + 4 = omega arith in
    entries pairs v right index
    ∙ rw (drop-cons l (index * 2) 0 (omega (arith, many)), drop-cons l (suc (index * 2)) 0 (omega (arith, many)))
    (rw (number_at 4 (lit< tt) v (index * 2), number_at 4 (lit< tt) v (suc (index * 2)), first, second))

-- the element of a value at an index: it is there, or not
pub element_there : (index : ℕ) (x : Value) → index < length (elements x)
    → element_at index x ≡ given (record { kind = x.kind; entries = get_or (elements x) index [] })
unfolding element_at checked no_element
element_there index x there = rw (lt-leb (length (elements x)) index there)

pub element_none : (index : ℕ) (x : Value) → length (elements x) ≤ index → element_at index x ≡ refused 4
unfolding element_at checked no_element
element_none index x past = rw (le-leb (length (elements x)) index past)

-- and of what was read
pub element_given : (index : ℕ) (reading : Answer Value) (x : Value) → reading ≡ given x → element index reading ≡ element_at index x
unfolding element and_then
element_given index reading x e = ap (element index) e

-- a value that is refused has no element
pub element_refused : (index k : ℕ) (reading : Answer Value) → reading ≡ refused k → element index reading ≡ refused k
unfolding element
element_refused index k reading e = ap (element index) e ∙ refused_stands _ k
