-- The element at an index of a list, as the code reads it.
-- Assumes nothing.
use mathlib.Core.Path.{◌≡◌, refl, sym, ap, ◌∙◌}
use Prim.Native.Nat.{ℕ, ◌+◌, ◌-◌, ◌*◌, ◌/◌, ◌≤◌, ◌<◌}
use mathlib.Core.Bool.{false}
use mathlib.Core.List.{List, [], ◌∷◌}
use native.Mathlib.Nat.{one-mul}
use native.Mathlib.Omega.{arith}
use lib.ListN.{length, take, drop, get_or, length-drop}
use lib.Seq.{drop-drop}
use Rattle.facts.specs.BigEndian.{number, number_at}
use Rattle.facts.proofs.BigEndian.{number_front}
use Rattle.facts.proofs.Pieces.{piece_lies}
use Rattle.rfc.specs.Numbers.{Answer, given, refused}
use Rattle.rfc.specs.Kinds.{kind_of, size_of}
use Rattle.rfc.specs.Values as rfc
use Rattle.rfc.specs.Values.{plain, wrong_length, value_of, read, elements, element_at, element}
use Rattle.rfc.proofs.Values.{kind_kept, Listed, addresses, pairs, u16s, codes}
use Rattle.rfc.proofs.Elements.{listed_some, listed_count, listed_size, one_entry, pair_entries, element_there, element_none, element_given}
use Rattle.rfc.proofs.Readings.{read_right}
use Rattle.values.specs.Reading.{says, count_of, Tells, ReadAs, Entry, entry_at}
use Rattle.std.specs.Prelude.{Result, Ok}
use Rattle.refusal.specs.declared.Refusal.{Refusal}
use Rattle.refusal.specs.Told as refusal
use Rattle.refusal.proofs.Told.{says_then}
use Rattle.values.proofs.Cases.{is_value}
use Rattle.values.specs.declared.answer.Value.{Value}
use Rattle.values.specs.declared.answer.Value.TheVariants as case

-- the last list kind
pub last_kind : {kind width n : ℕ} → Listed kind width n → (kind ≡ 2 → ⊥) → (kind ≡ 3 → ⊥) → (kind ≡ 7 → ⊥) → kind ≡ 11
last_kind addresses n₂ n₃ n₇ = absurd (n₂ refl)
last_kind pairs n₂ n₃ n₇ = absurd (n₃ refl)
last_kind u16s n₂ n₃ n₇ = absurd (n₇ refl)
last_kind codes n₂ n₃ n₇ = refl

-- an element of a list that has it
module _ {kind index : ℕ} {v : List ℕ} (e : Entry kind v index) {k width n : ℕ} (is : kind ≡ k) (l : Listed k width n) where
  right : wrong_length plain k v ≡ false
  right = rw is at e.length_right

  below : index < length v / size_of k
  below = rw (is, listed_count l v right) at e.below

  module _ {size : ℕ} (s : size ≡ size_of kind) where
    size_is : size ≡ n * width
    size_is = s ∙ ap size_of is ∙ (listed_size l).0

    -- where it begins, and that it is there whole
    start : index * size ≡ index * (n * width)
    start = ap (λ (j : ℕ). index * j) size_is

    pub lies : index * size + n * width ≤ length v
    lies = rw (← size_is, s, is) (piece_lies (size_of k) (length v) index below)

    -- a number of it is the one in its own bytes
    pub number_in : (i : ℕ) → i + width ≤ n * width
        → number_at width (take (index * size + size - index * size) (drop (index * size) v)) i
        ≡ number (take width (drop i (drop (index * size) v)))
    number_in i h =
        number_front width (drop (index * size) v) i (index * size + size - index * size) (omega (arith, size_is))
        (omega (arith, size_is, lies, length-drop (index * size) v))

module _ {kind index size : ℕ} {v : List ℕ} (e : Entry kind v index) (s : size ≡ size_of kind) where
  -- it has bytes, and lies inside, whatever the list
  pub some : 0 < size
  some = rw s (listed_some e.is_list)

  pub within : index * size + size ≤ length v
  within = omega (arith, lies e refl e.is_list s, size_is e refl e.is_list s)

  -- an element of one number
  pub one : {k width : ℕ} (is : kind ≡ k) → Listed k width 1 → (x : ℕ) → x ≡ number (take width (drop (index * size) v))
      → record { kind = k; entries = x ∷ [] } ≡ entry_at kind v index
  one {width = width} is l x f =
      let at : index * size ≡ index * width = start e is l s ∙ ap (λ (j : ℕ). index * j) (one-mul width) in
      rw (is, one_entry l v (right e is l) index (below e is l), f, at)

  -- a pair
  pub two : kind ≡ 3 → (x y : ℕ) → x ≡ number (take 4 (drop (index * size) v)) → y ≡ number (take 4 (drop 4 (drop (index * size) v)))
      → record { kind = 3; entries = x ∷ y ∷ [] } ≡ entry_at kind v index
  two is x y f g =
      let at : index * size ≡ index * 8 = start e is pairs s in
      rw (is, pair_entries v (right e is pairs) index (below e is pairs), f, g, drop-drop 4 (index * size) v, at)

-- what has elements is a list
entry_of : (r : Value) (v : List ℕ) (index : ℕ) → index < count_of r → wrong_length plain (says r v).kind v ≡ false
    → index < length (elements (value_of (says r v).kind v)) → Entry (says r v).kind v index
entry_of case.Raw v index h r b = absurd (omega arith)
entry_of (case.Address n) v index h r b = absurd (omega arith)
entry_of (case.Addresses count) v index h r b = record { width = 4; n = 1; is_list = addresses; length_right = r; below = b }
entry_of (case.Pairs count) v index h r b = record { width = 4; n = 2; is_list = pairs; length_right = r; below = b }
entry_of (case.Byte n) v index h r b = absurd (omega arith)
entry_of (case.YesNo t) v index h r b = absurd (omega arith)
entry_of (case.U16 n) v index h r b = absurd (omega arith)
entry_of (case.U16s count) v index h r b = record { width = 2; n = 1; is_list = u16s; length_right = r; below = b }
entry_of (case.U32 n) v index h r b = absurd (omega arith)
entry_of (case.I32 z) v index h r b = absurd (omega arith)
entry_of case.Text v index h r b = absurd (omega arith)
entry_of (case.Codes count) v index h r b = record { width = 1; n = 1; is_list = codes; length_right = r; below = b }
entry_of (case.NodeType node) v index h r b = absurd (omega arith)
entry_of (case.MessageType n) v index h r b = absurd (omega arith)
entry_of (case.ThreeBytes x y z) v index h r b = absurd (omega arith)
entry_of case.Flag v index h r b = absurd (omega arith)

-- a refused reading is the answer of an element too
pub no_reading : (index : ℕ) (reading : Answer rfc.Value) (e : Refusal) → refusal.says e ≡ reading → refusal.says e ≡ element index reading
unfolding element
no_reading index reading e told = sym (says_then (element_at index) e) ∙ ap (element index) told

-- the element of what was read
module _ (code : ℕ) (v : List ℕ) (index : ℕ) {reading : Result Value Refusal} {held : Value} (e : reading ≡ Ok held)
    (read_as : ReadAs v (read plain code v) reading) where
  t : Tells v (read plain code v) held
  t = is_value v (read plain code v) e read_as

  of_held : element index (read plain code v) ≡ element_at index (says held v)
  of_held = element_given index (read plain code v) (says held v) (sym t.told)

  pub no-element : count_of held ≤ index → refused 4 ≡ element index (read plain code v)
  no-element past = sym (of_held ∙ element_none index (says held v) (omega (arith, t.exact.counted)))

  module _ (kind : ℕ) (is : kind ≡ kind_of code) (there : index < count_of held) where
    was_right : (wrong_length plain (kind_of code) v ≡ false) × (value_of (kind_of code) v ≡ says held v)
    was_right = read_right plain code v (says held v) (sym t.told)

    value_is : value_of kind v ≡ says held v
    value_is = rw is was_right.1

    kind_is : (says held v).kind ≡ kind
    kind_is = ap (λ (x : rfc.Value). x.kind) (sym value_is) ∙ kind_kept v kind

    pub an_entry : Entry kind v index
    an_entry =
        rw kind_is at
        (entry_of held v index there (rw (kind_is, is) was_right.0) (rw (kind_is, value_is) (omega (arith, t.exact.counted))))

    pub an_element : given (entry_at kind v index) ≡ element index (read plain code v)
    an_element =
        sym (of_held ∙ element_there index (says held v) (omega (arith, t.exact.counted))
        ∙ (λ i. given (record { kind = kind_is i; entries = get_or (elements (sym value_is i)) index [] })))
