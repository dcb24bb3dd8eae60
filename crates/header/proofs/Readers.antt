-- What the proofs of the header's readers share: a message is refused or read, and what each field of the one and of the other says.
-- Assumes nothing.
use mathlib.Core.Path.{◌≡◌, refl, sym, ap, ◌∙◌}
use Prim.Native.Nat.{ℕ, ◌+◌, ◌≤◌, ◌<◌}
use native.Mathlib.Omega.{arith}
use Rattle.std.proofs.lemmas.List.Sums.{prefix_len-le-length}
use mathlib.Core.Bool.{Bool, true, false, not, cond}
use mathlib.Core.List.{List}
use lib.Dec.{eqb, ltb}
use lib.ListN.{length, get_or, take}
use borrow.Author.Tests.{ne_eqb, ltb-false}
use native.Mathlib.Decide.{dec_le}
use Rattle.std.specs.Prelude.{Result, Err, Some, None, unwrap_or, position}
use Rattle.std.specs.List.{position_or_len}
use Rattle.std.proofs.lemmas.List.Recursion.{is_position_or_len}
use Rattle.facts.specs.BigEndian.{number, number_at}
use Rattle.facts.proofs.BigEndian.{number_front}
use Rattle.facts.proofs.Cells.{byte_at}
use Rattle.rfc.specs.Numbers.{Answer, given, refused, needs, checked, least_message, most_bytes}
use Rattle.rfc.specs.Header as rfc
use Rattle.rfc.specs.Header.{Part, part, bytes_of, message_checks, field, until_zero, text_field}
use Rattle.rfc.proofs.Numbers.{Refuses, refuses, refused_by, passes, needs_no, Clear}
use Rattle.rfc.proofs.Header as laws
use Rattle.refusal.specs.declared.Refusal.{Refusal}
use Rattle.refusal.specs.declared.Refusal.TheVariants.{MessageTooShort, TooLong, ChaddrPastEnd}
use Rattle.refusal.proofs.Told.{told_one, says_as, says_given}
use Rattle.refusal.specs.Told.{number_of, says}
use Rattle.header.specs.Header.{cut_in, own_in, spills_in, magic_in, all_of, none_of, Stopped, Inside}

-- which messages are refused
pub long_stops : (message : List ℕ) → most_bytes < length message → Stopped message TooLong
long_stops message h = sym (refuses _ (laws.message_long message h))

pub short_stops : (message : List ℕ) → length message ≤ most_bytes → length message < least_message → Stopped message MessageTooShort
short_stops message h g = sym (refuses _ (laws.message_short message h g))

-- a message that is refused, and so each answer about it
module _ (message : List ℕ) (e : Refusal) (s : Stopped message e) where
  pub stopped : {A : Type 0} → Refuses (message_checks message) (number_of e) × (says {A = A} e ≡ refused (number_of e))
  stopped {A} =
      says_as (λ (a : Answer (Unit {0})) (b : Answer A) k len. a ≡ checked (message_checks message) (given (tt {0}))
      → Refuses (message_checks message) k × (b ≡ refused k))
      (λ k h. (refused_by _ (tt {0}) k (sym h), refl))
      (λ len h. let z : needs len ≡ given (tt {0}) = sym (passes _ _ (needs len) (needs_no len) (sym h)).1 in cc) e s

  refusing : Refuses (message_checks message) (number_of e)
  refusing = (stopped {A = ℕ}).0

  told_so : {A : Type 0} {a : Answer A} → a ≡ refused (number_of e) → says e ≡ a
  told_so h = stopped.1 ∙ sym h

  pub field_stopped : (f : Part) → says e ≡ field f message
  field_stopped f = told_so (laws.field_refused message f refusing)

  pub text_stopped : (f : Part) → says e ≡ text_field f message
  text_stopped f = told_so (laws.text_refused message f refusing)

  pub chaddr_stopped : says e ≡ rfc.chaddr message
  chaddr_stopped = told_so (laws.chaddr_refused message refusing)

  pub area_stopped : says e ≡ rfc.area message
  area_stopped = told_so (laws.area_refused message refusing)

  -- it has no field
  pub all_stopped : none_of (number_of e) ≡ all_of message
  all_stopped =
      let fields : (f : Part) → field f message ≡ refused (number_of e) = λ f. laws.field_refused message f refusing in
      let texts : (f : Part) → text_field f message ≡ refused (number_of e) = λ f. laws.text_refused message f refusing in
      let other : eqb (number_of e) 3 ≡ false = ne_eqb (number_of e) 3 (λ h. omega (arith, laws.message_refusal message refusing)) in
      simp (fields, texts, laws.sname_text, laws.file_text, laws.chaddr_refused message refusing, laws.area_refused message refusing, other)

-- the number of a field is the one at its place
pub number_is : (message : List ℕ) → least_message ≤ length message → (start size : ℕ) → Inside start size
    → number_at size (take least_message message) start ≡ number (bytes_of (part start size) message)
number_is message least start size h = number_front size message start least_message h least

-- what all fields say of chaddr: its refusal alone, how many bytes lie in its field, and whether there are more
abbrev pub ChaddrTold : List ℕ → ℕ × ℕ × Bool → Type 0
ChaddrTold message t =
    (t.0 ≡ cut_in (rfc.chaddr message)) × (t.1 ≡ own_in (rfc.chaddr message)) × (t.2 ≡ spills_in (rfc.chaddr message))

-- what the fields of a message that is read say
module _ (message : List ℕ) (least : least_message ≤ length message) (most : length message ≤ most_bytes) where
  pub clear : Clear (message_checks message)
  clear = laws.message_read message most least

  pub fields : (f : Part) → field f message ≡ given (number (bytes_of f message))
  fields f = laws.field_given message f clear

  pub texts : (f : Part) → text_field f message ≡ given (part f.start (until_zero (bytes_of f message)))
  texts f = laws.text_given message f clear

  hlen_is : get_or message 2 0 ≡ rfc.hlen_of message
  hlen_is = byte_at message 2 (omega (arith, least)) ∙ sym (laws.hlen_read message)

  -- chaddr, by what hlen reads
  pub chaddr_cut : length message < 28 + get_or message 2 0 → rfc.chaddr message ≡ refused 3
  chaddr_cut h = laws.chaddr-cut message clear _ hlen_is h

  pub chaddr_shown : 28 + get_or message 2 0 ≤ length message → rfc.chaddr message ≡ given (rfc.address (get_or message 2 0))
  chaddr_shown h = laws.chaddr_given message clear _ hlen_is h

  -- what refuses chaddr alone
  pub chaddr_alone : (e : Refusal) → says e ≡ rfc.chaddr message → ChaddrTold message (number_of e, 0, false)
  chaddr_alone e s = go (dec_le (28 + get_or message 2 0) (length message))
    where
      go : Dec (28 + get_or message 2 0 ≤ length message) → ChaddrTold message (number_of e, 0, false)
      go (yes h) = absurd (says_given _ e (s ∙ chaddr_shown h))
      go (no h) =
          let cut : rfc.chaddr message ≡ refused 3 = chaddr_cut (omega arith) in
          let z : ◌≡◌ {A = Result rfc.Address Refusal} (Err e) (Err ChaddrPastEnd) = told_one _ _ (s ∙ cut) in
          let is : e ≡ ChaddrPastEnd = cc in
          simp (is, cut) (refl, refl, refl)

  pub magic_told : not (rfc.magic_right message) ≡ magic_in (rfc.area message)
  magic_told = go (rfc.magic_right message) refl
    where
      go : (t : Bool) → rfc.magic_right message ≡ t → not t ≡ magic_in (rfc.area message)
      go true e = sym (ap magic_in (laws.area_given message clear e))
      go false e = sym (ap magic_in (laws.area_wrong message clear e))

-- the definition looks for the first zero as the iterator does
until_first : (bytes : List ℕ) → until_zero bytes ≡ position_or_len (λ b. eqb b 0) bytes
unfolding until_zero
until_first = is_position_or_len until_zero (λ b. eqb b 0) refl (λ b rest. ap (λ (n : ℕ). cond (eqb b 0) 0 n) (omega arith))

pub until_zero_is : (bytes : List ℕ) → unwrap_or (position (λ b. eqb b 0) bytes) (length bytes) ≡ until_zero bytes
until_zero_is bytes = go _ refl ∙ sym (until_first bytes)
  where
    place : ℕ
    place = position_or_len (λ b. eqb b 0) bytes

    go : (t : Bool) → ltb place (length bytes) ≡ t → unwrap_or (cond t (Some place) None) (length bytes) ≡ place
    go true e = refl
    go false e = omega (arith, ltb-false place (length bytes) e, prefix_len-le-length (λ b. not (eqb b 0)) bytes)
