-- The laws of `specs/Values.antt`, of strict reading: a list or text with no element is refused, and what both modes judge alike is read alike.
-- Assumes nothing.
use mathlib.Core.Path.{◌≡◌, refl, sym, ap, ◌∙◌}
use Prim.Native.Nat.{ℕ, ◌<◌}
use mathlib.Core.Bool.{false}
use mathlib.Core.List.{List, []}
use native.Mathlib.Omega.{arith}
use lib.ListN.{length}
use Rattle.facts.specs.Ranges.{lookup, within}
use Rattle.rfc.specs.Numbers.{given, refused, no_code}
use Rattle.rfc.specs.Kinds.{kind_of}
use Rattle.rfc.specs.Values.{value_of, multiple, one_or_more, Mode, plain, strict, rules, rule_for, wrong_length, home_agents, length_mode, ListOrText, addresses, pairs, u16s, text, codes, unclear, read_checks, read}
use Rattle.rfc.proofs.Alike.{none, both, alike}
use Rattle.rfc.proofs.Codes.{pad_raw, end_raw}
use Rattle.rfc.proofs.Numbers.{a_code}
use Rattle.rfc.proofs.Readings.{length_by, some_alike, of_others, either_mode, other_clear, plain_clear, read_10}

-- how a kind of lists or texts is judged: by one element or more in strict mode, by any in plain; and which kinds it is not
record Judged (kind : ℕ) : Type 0 where
  strictly : rule_for strict kind ≡ one_or_more
  plainly : rule_for plain kind ≡ multiple
  not_raw : kind ≡ 0 → ⊥
  not_yes_no : kind ≡ 5 → ⊥

judged : {kind : ℕ} → ListOrText kind → Judged kind
unfolding rule_for rules lookup within
judged addresses = record { strictly = refl; plainly = refl; not_raw = λ e. omega arith; not_yes_no = λ e. omega arith }
judged pairs = record { strictly = refl; plainly = refl; not_raw = λ e. omega arith; not_yes_no = λ e. omega arith }
judged u16s = record { strictly = refl; plainly = refl; not_raw = λ e. omega arith; not_yes_no = λ e. omega arith }
judged text = record { strictly = refl; plainly = refl; not_raw = λ e. omega arith; not_yes_no = λ e. omega arith }
judged codes = record { strictly = refl; plainly = refl; not_raw = λ e. omega arith; not_yes_no = λ e. omega arith }

-- a list or text with no element, of another code than the home agents'
pub empty_refused : (code : ℕ) → ListOrText (kind_of code) → (code ≡ home_agents → ⊥) → read strict code [] ≡ refused 10
empty_refused code k other =
    read_10 strict code [] (omega arith) some refl
    (ap (λ (m : Mode). wrong_length m (kind_of code) []) (sym (of_others strict code other))
    ∙ sym (length_by strict _ [] one_or_more (judged k).strictly))
  where
    some : no_code code ≡ false
    some = a_code code (λ e. (judged k).not_raw (ap kind_of e ∙ pad_raw)) (λ e. (judged k).not_raw (ap kind_of e ∙ end_raw))

-- a value whose length is judged alike in both modes, and that is no yes/no byte, is read alike
module _ (code : ℕ) (v : List ℕ) where
  read_alike : wrong_length strict (kind_of code) v ≡ wrong_length plain (kind_of code) v → (kind_of code ≡ 5 → ⊥)
      → read strict code v ≡ read plain code v
  unfolding read read_checks length_mode
  read_alike same other =
      let kind : ℕ = kind_of code in
      let length-alike = either_mode (λ (m : Mode). wrong_length m kind v ≡ wrong_length plain kind v) code refl same in
      let clear : unclear strict kind v ≡ unclear plain kind v = other_clear strict kind v other ∙ sym (plain_clear kind v) in
      alike (given (value_of kind v)) (both refl (both refl (both length-alike (both refl (both clear none)))))

  -- so is a list or text with an element
  pub else_as_plain : ListOrText (kind_of code) → 0 < length v → read strict code v ≡ read plain code v
  else_as_plain k some =
      read_alike
      (sym (length_by strict _ v one_or_more (judged k).strictly)
      ∙ some_alike _ (length v) (λ z. omega arith)
      ∙ length_by plain _ v multiple (judged k).plainly)
      (judged k).not_yes_no

  -- and any raw value
  pub raw_as_plain : kind_of code ≡ 0 → read strict code v ≡ read plain code v
  unfolding wrong_length rule_for rules lookup within
  raw_as_plain e = read_alike (rw e (refl)) (λ f. omega arith)
