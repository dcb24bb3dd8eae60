-- The laws of `specs/Typed.antt`: the bytes of numbers, the parts of each kind, and a typed write by its checks.
-- Assumes nothing.
use mathlib.Core.Path.{◌≡◌, refl, sym, ap, ◌∙◌}
use Prim.Native.Nat.{ℕ, zero, suc, ◌+◌, ◌*◌, ◌/◌, ◌%◌, ◌^◌, ◌≤◌, ◌<◌}
use mathlib.Core.Bool.{Bool, true, false, not, ◌&&◌}
use native.Mathlib.Omega.{arith}
use native.Mathlib.Nat.{mul-suc, mul-zero}
use native.Mathlib.Decide.{dec_le}
use mathlib.Core.List.{List, [], ◌∷◌, ◌++◌, flatten}
use borrow.Author.Tests.{ltb-true, leb-true, eqb-true, eq-eqb, ne_eqb}
use lib.Dec.{eqb, leb, ltb}
use lib.ListN.{length, take, drop, get_or, length-append}
use lib.Seq.{drop-cons, take-nil, drop-nil, take-append-add, drop-append-add, take_at}
use Rattle.facts.specs.BigEndian.{digits}
use Rattle.facts.proofs.BigEndian.{Bytes, length_digits}
use Rattle.facts.proofs.Table.{each}
use Rattle.facts.specs.Ranges.{lookup, within}
use Rattle.rfc.specs.Numbers.{refused, most_bytes, most_value, most_part, too_long, past_end, no_code, check}
use Rattle.rfc.specs.Kinds.{sizes, size_of}
use Rattle.rfc.specs.Values.{Content, numbers, width_of, not_text}
use Rattle.rfc.specs.Writing.{encode, Write, write_checks, answer_to, room_after, write_slice, write_bytes}
use Rattle.rfc.specs.Typed.{digits_of, bytes_in, part_size, encode_kind, odd_pairs, code_checks, value_checks}
use Rattle.rfc.specs.Typed.{write_kind, write_value}
use Rattle.rfc.proofs.Numbers.{Refuses, here, later, refuses_front, refuses_behind, Clear, done, next, clear_both, clear_last, not_too_long, place_within, much, not_much}
use Rattle.rfc.proofs.Alike.{Alike, none, both, passes_right, answers_alike, left_alike, clear_slice}
use Rattle.rfc.proofs.Codes.{size_some}
use Rattle.rfc.proofs.Values.{value, Scalar, scalar_kind, Listed, addresses, pairs, u16s, codes}
use Rattle.rfc.proofs.Writing.{encode_once, write_refused}

-- the bytes of numbers, each of so many
module _ (width : ℕ) where
  more : (n : ℕ) → width * suc n ≡ width + width * n
  more n = omega (arith, mul-suc width n)

  first : (x n : ℕ) → width * suc n ≡ length (digits width x) + width * n
  first x n = omega (arith, more n, length_digits width x)

  pub length_digits_of : (l : List ℕ) → length (digits_of width l) ≡ width * length l
  unfolding digits_of flatten
  length_digits_of [] = omega arith
  length_digits_of (x ∷ l) =
      omega (arith, length-append (digits width x) (digits_of width l), length_digits_of l, first x (length l))

  -- those of the first n numbers, and those behind them
  take_digits : (n : ℕ) (l : List ℕ) → take (width * n) (digits_of width l) ≡ digits_of width (take n l)
  unfolding digits_of flatten
  take_digits zero l = rw mul-zero
  take_digits (suc n) [] = take-nil (width * suc n)
  take_digits (suc n) (x ∷ l) = rw (first x n, take-append-add, take_digits n l)

  drop_digits : (n : ℕ) (l : List ℕ) → drop (width * n) (digits_of width l) ≡ digits_of width (drop n l)
  unfolding digits_of flatten
  drop_digits zero l = rw mul-zero
  drop_digits (suc n) [] = drop-nil (width * suc n)
  drop_digits (suc n) (x ∷ l) = rw (first x n, drop-append-add) (drop_digits n l)

  -- the bytes of n numbers from one on
  pub digits_part : (from n : ℕ) (l : List ℕ)
      → take (width * n) (drop (width * from) (digits_of width l)) ≡ digits_of width (take n (drop from l))
  digits_part from n l = ap (take (width * n)) (drop_digits from l) ∙ take_digits n (drop from l)

  -- those of one number
  pub digits_at : (i : ℕ) (l : List ℕ) → i < length l → take width (drop (width * i) (digits_of width l)) ≡ digits width (get_or l i 0)
  unfolding digits_of flatten
  digits_at i l h = rw (drop_digits i l, drop-cons l i 0 h) (take_at (digits width (get_or l i 0)) _ width (length_digits width (get_or l i 0)))

-- the most bytes of a part: whole elements, no more than 255 bytes, and one element more would pass 255
pub whole_elements : (kind : ℕ) → kind < 15
    → (part_size kind % size_of kind ≡ 0) × (part_size kind ≤ most_part) × (most_part < part_size kind + size_of kind)
unfolding part_size size_of sizes
whole_elements kind h = (
  eqb-true _ 0 (each (λ n. eqb n 0) (λ k. part_size k % size_of k) 15 kind refl h),
  leb-true _ most_part (each (λ n. leb n most_part) part_size 15 kind refl h),
  ltb-true most_part _ (each (ltb most_part) (λ k. part_size k + size_of k) 15 kind refl h),
)

-- a part holds an element, so it has some bytes
part_holds : (kind : ℕ) → kind < 15 → size_of kind ≤ part_size kind
unfolding part_size size_of sizes
part_holds kind h = leb-true _ _ (each (λ k. leb (size_of k) (part_size k)) (λ k. k) 15 kind refl h)

pub some_part : (kind : ℕ) → kind < 15 → 0 < part_size kind
some_part kind h = omega (arith, size_some kind h, part_holds kind h)

-- 63 addresses, 31 pairs, 127 u16s
pub parts_listed : (part_size 2 ≡ 4 * 63) × (part_size 3 ≡ 4 * (2 * 31)) × (part_size 7 ≡ 2 * 127)
unfolding part_size size_of sizes
parts_listed = (refl, refl, refl)

-- text and codes are cut as byte values are
pub parts_bytes : (part_size 10 ≡ most_part) × (part_size 11 ≡ most_part)
unfolding part_size size_of sizes
parts_bytes = (refl, refl)

-- one element by its kind: it has a byte and fits in a part, and it is no pairs, no text and no flag
pub record Single (kind size : ℕ) : Type 0 where
  pub size_is : size_of kind ≡ size
  pub some : 0 < size
  pub in_part : (size ≤ part_size kind) × (size ≤ most_part)
  pub other : (kind ≡ 3 → ⊥) × (kind ≡ 10 → ⊥) × (kind ≡ 15 → ⊥)

pub single : {kind size : ℕ} → Scalar kind size → Single kind size
single {kind} {size} s =
    let k = scalar_kind s in
    let fits : size_of kind ≤ part_size kind = part_holds kind k.1 in
    record {
      size_is = k.0;
      some = omega (arith, k.0, size_some kind k.1);
      in_part = (omega (arith, k.0, fits), omega (arith, k.0, fits, (whole_elements kind k.1).1));
      other = (k.2, k.3, λ e. omega (arith, k.1));
    }

-- the parts of bytes of a kind
module _ (kind code : ℕ) (v : List ℕ) where
  pub encode-kind : (kind ≡ 15 → ⊥) → encode_kind kind code v ≡ encode (part_size kind) code v
  unfolding encode_kind
  encode-kind n = rw (ne_eqb kind 15 n)

  pub encode_scalar : {size : ℕ} → Single kind size → length v ≡ size → encode_kind kind code v ≡ encode most_part code v
  encode_scalar s e =
      encode-kind s.other.2
      ∙ encode_once (part_size kind) code v (omega (arith, s.some)) (omega (arith, s.in_part.0))
      ∙ sym (encode_once most_part code v (omega (arith, s.some)) (omega (arith, s.in_part.1)))

pub encode_flag : (code : ℕ) (v : List ℕ) → encode_kind 15 code v ≡ code ∷ 0 ∷ []
unfolding encode_kind
encode_flag code v = refl

-- 13
pub no_pairs : (kind : ℕ) (v : List ℕ) → (kind ≡ 3 → ⊥) → odd_pairs kind v ≡ false
unfolding odd_pairs
no_pairs kind v n = rw (ne_eqb kind 3 n)

-- an odd number of addresses is no whole number of pairs
pub odd_addresses : (kind : ℕ) (l : List ℕ) → odd_pairs kind (digits_of 4 l) ≡ (eqb kind 3 && not (eqb (length l % 2) 0))
unfolding odd_pairs size_of sizes
odd_addresses kind l = rw (length_digits_of 4 l) (ap (λ (b : Bool). eqb kind 3 && not b) (go (dec_le 1 (length l % 2))))
  where
    half : 4 * length l % 8 ≡ length l % 2 * 4
    half = omega arith

    go : Dec (1 ≤ length l % 2) → eqb (4 * length l % 8) 0 ≡ eqb (length l % 2) 0
    go (yes h) = simp (ne_eqb (4 * length l % 8) 0 (λ z. omega (arith, half)), ne_eqb (length l % 2) 0 (λ z. omega arith))
    go (no h) = simp (eq-eqb (4 * length l % 8) 0 (omega (arith, half)), eq-eqb (length l % 2) 0 (omega arith))

-- where they are clear, the room is no longer than the most, and the place is in it
pub code_within : (kind code : ℕ) (room : List ℕ) (place : ℕ) → Clear (code_checks kind code room place)
    → (length room ≤ most_bytes) × (place ≤ length room)
unfolding code_checks
code_within kind code room place (next a (next b (next c (next d done)))) = (not_too_long room a, place_within place room b)

-- a typed write
module _ (kind code : ℕ) (v room : List ℕ) (place : ℕ) where
  abbrev write : Write
  write = write_kind kind code v room place

  pub kind_code : {k : ℕ} → Refuses (code_checks kind code room place) k → answer_to write room place ≡ refused k
  unfolding write_kind write_checks
  kind_code r = write_refused write room place (refuses_front _ (refuses_front (value_checks kind v) r))

  module _ (a : Clear (code_checks kind code room place)) where
    -- a check of the value's bytes, behind those
    behind : {k : ℕ} → Refuses (value_checks kind v) k → answer_to write room place ≡ refused k
    unfolding write_kind write_checks
    behind r = write_refused write room place (refuses_front _ (refuses_behind a r))

    pub kind_13 : odd_pairs kind v ≡ true → answer_to write room place ≡ refused 13
    unfolding value_checks
    kind_13 b = behind (here b)

    module _ (b : odd_pairs kind v ≡ false) where
      pub kind_11 : not_text kind v ≡ true → answer_to write room place ≡ refused 11
      unfolding value_checks
      kind_11 c = behind (later b (here c))

      module _ (c : not_text kind v ≡ false) where
        pub kind_7 : most_value < length v → answer_to write room place ≡ refused 7
        unfolding value_checks
        kind_7 d = behind (later b (later c (here (much v d))))

        module _ (d : length v ≤ most_value) where
          clear : Clear write.checks
          unfolding write_kind value_checks
          clear = clear_both a (next b (next c (next (not_much v d) done)))

          -- only the end of the room can refuse it: it is the write of its parts as they stand
          pub kind_slice : (answer_to (write_slice (encode_kind kind code v) room place) room place ≡ answer_to write room place)
              × (room_after (write_slice (encode_kind kind code v) room place) room place ≡ room_after write room place)
          unfolding write_kind
          kind_slice = clear_slice write room place clear (code_within kind code room place a).1

        -- where its parts are those of a byte value, it is the write of one
        pub kind_alike : encode_kind kind code v ≡ encode most_part code v
            → (answer_to (write_bytes code v room place) room place ≡ answer_to write room place)
            × (room_after (write_bytes code v room place) room place ≡ room_after write room place)
        unfolding write_kind write_bytes code_checks value_checks
        kind_alike e =
            let front = check (too_long room) 2 ∷ check (past_end place room) 4 ∷ check (no_code code) 6 ∷ [] in
            let same : Alike (write_bytes code v room place).checks write.checks =
            both refl (both refl (both refl (passes_right (clear_last front _ 9 a) (passes_right b (passes_right c (both refl none)))))) in
            (answers_alike room place (sym e) same, left_alike room place (sym e) same)

-- a typed value is written by its kind and its bytes
pub value_kind : (kind code : ℕ) (content : Content) (room : List ℕ) (place : ℕ)
    → write_value code (value kind content) room place ≡ write_kind kind code (bytes_in kind content) room place
unfolding write_value
value_kind kind code content room place = refl

-- a number below 256 is its one byte
pub digits_byte : (n : ℕ) → n < 256 → digits 1 n ≡ n ∷ []
digits_byte n h =
    let e : n / 256 ^ 0 % 256 ≡ n = omega arith in
    ap (λ (k : ℕ). k ∷ []) e

-- a list's bytes are those of its numbers
pub listed_bytes : {kind width n : ℕ} → Listed kind width n → (l : List ℕ) → digits_of width l ≡ bytes_in kind (numbers l)
unfolding width_of lookup within
listed_bytes addresses l = refl
listed_bytes pairs l = refl
listed_bytes u16s l = refl
listed_bytes codes l = refl

-- numbers of one byte are their bytes, and so are codes
digits_bytes : (v : List ℕ) → Bytes v → digits_of 1 v ≡ v
unfolding digits_of flatten
digits_bytes [] b = refl
digits_bytes (x ∷ v) b =
    let rest : Bytes v = λ i. b (suc i) in
    ap (λ (l : List ℕ). l ++ digits_of 1 v) (digits_byte x (b 0)) ∙ ap (λ (l : List ℕ). x ∷ l) (digits_bytes v rest)

pub codes_bytes : (v : List ℕ) → Bytes v → bytes_in 11 (numbers v) ≡ v
codes_bytes v b = sym (listed_bytes codes v) ∙ digits_bytes v b
