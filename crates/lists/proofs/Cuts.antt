-- What the write of a list of numbers answers, of any width and in parts of any size, by its checks.
-- Assumes nothing.
use mathlib.Core.Path.{◌≡◌, refl, sym, ap, ◌∙◌}
use Prim.Native.Nat.{ℕ, ◌+◌, ◌*◌, ◌/◌, ◌%◌, ◌≤◌, ◌<◌}
use mathlib.Core.Bool.{false, not, ◌&&◌}
use mathlib.Core.List.{List, map}
use native.Mathlib.Omega.{arith}
use native.Mathlib.Decide.{ℕ_discrete}
use borrow.Author.Tests.{ne_eqb}
use lib.Dec.{eqb, lit<}
use lib.ListN.{length}
use Rattle.std.proofs.lemmas.List.{length-map}
use Rattle.facts.specs.Over.{over}
use Rattle.rfc.specs.Numbers.{most_value}
use Rattle.rfc.specs.Values.{numbers, not_text}
use Rattle.rfc.specs.Writing.{encode, size_in_parts, write_slice}
use Rattle.rfc.specs.Typed.{digits_of, encode_kind, odd_pairs, code_checks, write_kind}
use Rattle.rfc.proofs.Numbers.{Clear}
use Rattle.rfc.proofs.Readings.{no_text}
use Rattle.rfc.proofs.Values.{Listed}
use Rattle.rfc.proofs.Writing.{length_encode}
use Rattle.rfc.proofs.Typed.{parts_listed, encode-kind, odd_addresses, code_within, kind_7, kind_slice, listed_bytes}
use Rattle.std.specs.Prelude.{Result, Ok, Err}
use Rattle.refusal.specs.declared.Refusal.{Refusal}
use Rattle.refusal.specs.declared.Refusal.TheVariants.{ValueTooLong, NoRoom}
use Rattle.encoder.specs.Written.{Wrote}
use Rattle.encoder.specs.Numbers.{NumberLaws}
use Rattle.encoder.proofs.Answers.{refuses, same_wrote, same_bytes, no_room, puts}
use Rattle.encoder.proofs.Turns.{length_bytes, turns_fit, turns_past}
use Rattle.typed.specs.Writes.{Writes}
use Rattle.typed.proofs.Answers.{holds}
use Rattle.lists.specs.Cuts.{CutAt, Ready}

-- addresses, pairs and u16s, by the numbers of a part
pub cut_addresses : CutAt 2 4 63
cut_addresses =
    record {
      part_is = parts_listed.0;
      some = lit< tt;
      fits_part = omega arith;
      other = (λ z. omega arith, λ z. omega arith);
      paired = λ z. refl;
    }

pub cut_pairs : CutAt 3 4 62
cut_pairs =
    record {
      part_is = parts_listed.1;
      some = lit< tt;
      fits_part = omega arith;
      other = (λ z. omega arith, λ z. omega arith);
      paired = λ z. refl;
    }

pub cut_u16s : CutAt 7 2 127
cut_u16s =
    record {
      part_is = parts_listed.2;
      some = lit< tt;
      fits_part = omega arith;
      other = (λ z. omega arith, λ z. omega arith);
      paired = λ z. omega arith;
    }

-- where the bytes of a list are written, the list is
pub list_holds : {kind width n : ℕ} → Listed kind width n → (code : ℕ) (l room : List ℕ) (place : ℕ) {room' : List ℕ} {r : Result ℕ Refusal}
    → Wrote (write_kind kind code (digits_of width l) room place) room room' place r → Writes kind (numbers l) code room room' place r
list_holds {kind} {width} k code l room place w = holds kind code (digits_of width l) room place (numbers l) (listed_bytes k l) w

-- whether a list of pairs has an odd number of addresses
pub odd_numbers : {A : Type 0} {kind width most : ℕ} {value : A → ℕ} {bytes : List A → List ℕ} → CutAt kind width most
    → NumberLaws width value bytes → (l : List A) → odd_pairs kind (bytes l) ≡ (eqb kind 3 && not (eqb (length l % 2) 0))
unfolding odd_pairs
odd_numbers {A} {kind} {width} {most} {value} {bytes} cut laws l = go (ℕ_discrete kind 3)
  where
    go : Dec (kind ≡ 3) → odd_pairs kind (bytes l) ≡ (eqb kind 3 && not (eqb (length l % 2) 0))
    go (yes e) =
        ap (odd_pairs kind) (laws.all l)
        ∙ ap (λ (w : ℕ). odd_pairs kind (digits_of w (map value l))) (cut.paired e)
        ∙ odd_addresses kind (map value l)
        ∙ ap (λ (n : ℕ). eqb kind 3 && not (eqb (n % 2) 0)) (length-map l value)
    go (no n) = rw (ne_eqb kind 3 n)

-- the bytes of a list to be written as a kind, where the room, the place and the code are right, and pairs are whole
pub record Checked (kind width most code place : ℕ) (bytes room : List ℕ) : Type 0 where
  pub cut : CutAt kind width most
  pub clear : Clear (code_checks kind code room place)
  pub even : odd_pairs kind bytes ≡ false

-- by the numbers of the list, with the width as the code has it
module _ {A : Type 0} {width : ℕ} {value : A → ℕ} {bytes : List A → List ℕ} (laws : NumberLaws width value bytes) (l : List A) where
  pub list_checked : {kind most : ℕ} → CutAt kind width most → (code place : ℕ) (room : List ℕ) → Clear (code_checks kind code room place)
      → false ≡ (eqb kind 3 && not (eqb (length l % 2) 0)) → Checked kind width most code place (bytes l) room
  list_checked cut code place room clear even = record { cut = cut; clear = clear; even = odd_numbers cut laws l ∙ sym even }

  module _ {w : ℕ} (e : w ≡ width) where
    pub list_many : most_value / w < length l → most_value < length (bytes l)
    list_many h = omega (arith, length_bytes laws l, turns_past laws e h)

    pub list_few : (most : ℕ) {size : ℕ} → length l ≤ most_value / w → size ≡ size_in_parts (w * most) (w * length l)
        → (length (bytes l) ≤ most_value) × (size ≡ size_in_parts (width * most) (length (bytes l)))
    list_few most h is = (
      omega (arith, length_bytes laws l, turns_fit laws e h),
      is ∙ ap (λ (k : ℕ). size_in_parts (k * most) (k * length l)) e ∙ ap (size_in_parts (width * most)) (sym (length_bytes laws l)),
    )

module _ {kind width most code place : ℕ} {bytes room : List ℕ} (s : Checked kind width most code place bytes room) where
  text : not_text kind bytes ≡ false
  text = no_text kind bytes s.cut.other.0

  pub list_within : place ≤ length room
  list_within = (code_within kind code room place s.clear).1

  pub list_7 : most_value < length bytes → Wrote (write_kind kind code bytes room place) room room place (Err ValueTooLong)
  list_7 h = refuses _ room place ValueTooLong 7 refl (kind_7 kind code bytes room place s.clear s.even text h)

  -- of one that is short enough, it is known how many bytes its parts take
  module _ {size : ℕ} (m : (length bytes ≤ most_value) × (size ≡ size_in_parts (width * most) (length bytes))) where
    abbrev parts : List ℕ
    parts = encode (width * most) code bytes

    takes : length parts ≡ size
    takes = length_encode (width * most) s.cut.some code bytes ∙ sym m.1

    -- only the end of the room can refuse it: it is the write of its parts as they stand
    as_parts : {room' : List ℕ} {r : Result ℕ Refusal} → Wrote (write_slice parts room place) room room' place r
        → Wrote (write_kind kind code bytes room place) room room' place r
    as_parts w =
        let are : encode_kind kind code bytes ≡ parts =
        encode-kind kind code bytes s.cut.other.1 ∙ ap (λ (k : ℕ). encode k code bytes) s.cut.part_is in
        same_wrote (kind_slice kind code bytes room place s.clear s.even text m.0) (same_bytes (sym are) w)

    pub list_8 : length room < place + size → Wrote (write_kind kind code bytes room place) room room place (Err NoRoom)
    list_8 h = as_parts (no_room parts room place list_within (omega (arith, takes)))

    pub list_ready : place + size ≤ length room → Ready width most code place bytes room
    list_ready h = record { some = s.cut.some; fits_part = s.cut.fits_part; fits = omega (arith, takes) }

    pub list_to : place + size ≤ length room → {room' : List ℕ} → room' ≡ over room place parts
        → Wrote (write_kind kind code bytes room place) room room' place (Ok (place + size))
    list_to h w = as_parts (puts parts room place (omega (arith, takes)) (place + size) (omega (arith, takes)) w)
