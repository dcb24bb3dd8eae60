-- What the typed writers share: what the answer of `writable` tells, when bytes of a kind are written as a byte value, and from bytes
-- of a kind to a value of it.
-- Assumes nothing.
use mathlib.Core.Path.{◌≡◌, refl, sym, ap, ◌∙◌, subst}
use Prim.Native.Nat.{ℕ}
use mathlib.Core.Bool.{Bool, true, false}
use mathlib.Core.List.{List, [], ◌∷◌}
use native.Mathlib.Omega.{arith}
use lib.ListN.{length}
use Rattle.facts.specs.BigEndian.{digits}
use Rattle.facts.proofs.BigEndian.{length_digits}
use Rattle.rfc.specs.Numbers.{Answer, given, refused, needs, Check, checked, most_part}
use Rattle.rfc.specs.Kinds.{size_of}
use Rattle.rfc.specs.Values.{Content, natural, truth, not_text}
use Rattle.rfc.specs.Writing.{Write, encode, write_slice, write_bytes}
use Rattle.rfc.specs.Typed.{bytes_in, part_size, code_checks, write_kind}
use Rattle.rfc.proofs.Numbers.{Clear, passes, given_no, needs_no, refused_by}
use Rattle.rfc.proofs.Values.{Scalar}
use Rattle.rfc.proofs.Readings.{no_text}
use Rattle.rfc.proofs.Typed.{parts_bytes, single, encode-kind, encode_scalar, encode_flag, no_pairs}
use Rattle.rfc.proofs.Typed.{kind_code, kind_alike, kind_slice, value_kind}
use Rattle.std.specs.Prelude.{Result, Ok, Err}
use Rattle.std.specs.Int.{from_bool}
use Rattle.refusal.specs.declared.Refusal.{Refusal}
use Rattle.refusal.specs.Told.{says, told}
use Rattle.refusal.proofs.Told.{says_as, says_given}
use Rattle.encoder.specs.Written.{Wrote}
use Rattle.encoder.proofs.Answers.{refuses, same_bytes, same_wrote}
use Rattle.typed.specs.Writes.{Writes, AsBytes}

-- what a refusal says in answer to one question, it says in answer to another
says_refused : {A B : Type 0} (e : Refusal) (n : ℕ) → says {A = A} e ≡ refused n → says {A = B} e ≡ refused n
says_refused {A} {B} e n =
    says_as (λ (a : Answer A) (b : Answer B) k len. a ≡ refused n → b ≡ refused n) (λ k q. let same : k ≡ n = cc in ap refused same)
    (λ len q. absurd cc) e

-- what is asked before a write of a kind: the room, the place and the code
module _ (kind code : ℕ) (room : List ℕ) (place : ℕ) where
  abbrev checks : List Check
  checks = code_checks kind code room place

  abbrev asked : Answer (Unit {0})
  asked = checked checks (given tt)

  -- nothing is refused
  pub code_none : told (Ok tt) ≡ asked → Clear checks
  code_none h = (passes checks (given tt) (given tt) (given_no tt) (sym h)).0

  -- or the write is
  pub code_refused : (v : List ℕ) (e : Refusal) → told (Err e) ≡ asked → Wrote (write_kind kind code v room place) room room place (Err e)
  code_refused v e h = go asked refl
    where
      go : (a : Answer (Unit {0})) → asked ≡ a → Wrote (write_kind kind code v room place) room room place (Err e)
      go (given x) p = absurd (says_given x e (h ∙ p))
      go (refused k) p = refuses _ room place e k (says_refused e k (h ∙ p)) (kind_code kind code v room place (refused_by checks tt k p))
      go (needs n) p = absurd (let z : ◌≡◌ {A = Answer (Unit {0})} (given tt) (needs n) = (passes checks (given tt) (needs n) (needs_no n) p).1 in cc)

-- bytes of a kind
module _ (kind code : ℕ) (v room : List ℕ) (place : ℕ) where
  module _ {room' : List ℕ} {r : Result ℕ Refusal} where
    -- written as a byte value
    pub as_bytes : AsBytes kind code v → Clear (code_checks kind code room place)
        → Wrote (write_bytes code v room place) room room' place r → Wrote (write_kind kind code v room place) room room' place r
    as_bytes b c w = same_wrote (kind_alike kind code v room place c b.paired b.text b.alike) w

    -- where they are those of a value, the value is written
    pub holds : (content : Content) → v ≡ bytes_in kind content
        → Wrote (write_kind kind code v room place) room room' place r → Writes kind content code room room' place r
    holds content e w =
        subst (λ (x : Write). Wrote x room room' place r)
        (ap (λ (l : List ℕ). write_kind kind code l room place) e ∙ sym (value_kind kind code content room place)) w

-- a kind that holds one element
module _ {kind size : ℕ} (k : Scalar kind size) where
  pub scalar_as : {code : ℕ} {v : List ℕ} → length v ≡ size → AsBytes kind code v
  scalar_as {code} {v} e =
      let s = single k in
      record {
        paired = no_pairs kind v s.other.0;
        text = no_text kind v s.other.1;
        alike = encode_scalar kind code v s e;
      }

  pub digits_as : {code : ℕ} {v : List ℕ} (n : ℕ) → v ≡ digits size n → AsBytes kind code v
  digits_as n e = scalar_as (ap (λ (l : List ℕ). length l) e ∙ length_digits size n)

  -- a number's bytes, by the size of its kind
  pub digits_in : {v : List ℕ} (n : ℕ) → v ≡ digits size n → v ≡ digits (size_of kind) n
  digits_in n e = e ∙ ap (λ (w : ℕ). digits w n) (sym (single k).size_is)

  pub holds_number : (code : ℕ) (v room : List ℕ) (place n : ℕ) {room' : List ℕ} {r : Result ℕ Refusal} → v ≡ digits size n
      → Wrote (write_kind kind code v room place) room room' place r → Writes kind (natural n) code room room' place r
  holds_number code v room place n e w = holds kind code v room place (natural n) (digits_in n e) w

-- a kind that is cut as a byte value is
uncut : {kind code : ℕ} {v : List ℕ} → part_size kind ≡ most_part → (kind ≡ 3 → ⊥) × (kind ≡ 15 → ⊥) → not_text kind v ≡ false
    → AsBytes kind code v
uncut {kind} {code} {v} p other e =
    record {
      paired = no_pairs kind v other.0;
      text = e;
      alike = encode-kind kind code v other.1 ∙ ap (λ (size : ℕ). encode size code v) p;
    }

-- yes is 1, and no is 0
pub yes_byte : (b : Bool) → from_bool b ∷ [] ≡ bytes_in 5 (truth b)
yes_byte true = refl
yes_byte false = refl

-- text that was checked
pub text_as : {code : ℕ} {v : List ℕ} → not_text 10 v ≡ false → AsBytes 10 code v
text_as e = uncut parts_bytes.0 (λ z. omega arith, λ z. omega arith) e

pub codes_as : {code : ℕ} {v : List ℕ} → AsBytes 11 code v
codes_as {code} {v} = uncut parts_bytes.1 (λ z. omega arith, λ z. omega arith) (no_text 11 v (λ z. omega arith))

-- a flag is its code and a length of 0
pub flag_wrote : (code : ℕ) (room : List ℕ) (place : ℕ) {room' : List ℕ} {r : Result ℕ Refusal} → Clear (code_checks 15 code room place)
    → Wrote (write_slice (code ∷ 0 ∷ []) room place) room room' place r → Wrote (write_kind 15 code [] room place) room room' place r
flag_wrote code room place c w =
    same_wrote
    (kind_slice 15 code [] room place c (no_pairs 15 [] (λ z. omega arith)) (no_text 15 [] (λ z. omega arith)) (omega arith))
    (same_bytes (sym (encode_flag code [])) w)
