-- What each kind's case tells of a value whose length is right.
-- Assumes nothing.
use mathlib.Core.Path.{◌≡◌, sym, ap, ◌∙◌, subst}
use Prim.Native.Nat.{ℕ, ◌/◌}
use mathlib.Core.Bool.{false}
use mathlib.Core.List.{List}
use lib.ListN.{length}
use Rattle.rfc.specs.Numbers.{Answer, given}
use Rattle.rfc.specs.Kinds.{size_of}
use Rattle.rfc.specs.Values as rfc
use Rattle.rfc.specs.Values.{numbers, numbers_of, plain, wrong_length, value_of, elements}
use Rattle.rfc.proofs.Values.{value, Listed, listed_value}
use Rattle.rfc.proofs.Elements.{listed_count}
use Rattle.kinds.specs.declared.Kind.{Kind}
use Rattle.kinds.specs.Kind.{number_of}
use Rattle.kinds.proofs.Numbers.{same_kind}
use Rattle.std.specs.Prelude.{Result, Ok}
use Rattle.std.proofs.lemmas.Option.{unwrap_or-slice_get}
use Rattle.refusal.specs.declared.Refusal.{Refusal}
use Rattle.values.specs.Reading.{says, count_of, Named, Tells, ReadAs, Right}
use Rattle.values.specs.declared.answer.Value.{Value}

-- the tests of a yes/no byte: of its kind, and of the byte, where there is one
pub ruleset yes_no_tests = (same_kind, unwrap_or-slice_get)

-- a reading, taken apart
module _ (v : List ℕ) (a : Answer rfc.Value) where
  pub is_value : {reading : Result Value Refusal} {r : Value} → reading ≡ Ok r → ReadAs v a reading → Tells v a r
  is_value e t = subst (λ (x : Result Value Refusal). ReadAs v a x) e t

module _ {kind : Kind} {v : List ℕ} (right : Right (number_of kind) v) {k : Kind} (is : kind ≡ k) where
  -- a case that says what the kind's value is
  pub tells : (r : Value) (x : rfc.Value) → says r v ≡ x → value_of (number_of k) v ≡ x → count_of r ≡ length (elements x) → Named r
      → Tells v (given (value_of (number_of kind) v)) r
  tells r x e f count named =
      record {
        told = ap (λ (y : rfc.Value). given y) (e ∙ sym f ∙ ap (λ (j : Kind). value_of (number_of j) v) (sym is));
        exact = record { counted = count ∙ ap (λ (y : rfc.Value). length (elements y)) (sym e); named = named };
      }

  -- a list
  pub listed : {width n : ℕ} → Listed (number_of k) width n → (r : Value) → says r v ≡ value (number_of k) (numbers (numbers_of width v))
      → count_of r ≡ length v / size_of (number_of kind) → Named r → Tells v (given (value_of (number_of kind) v)) r
  listed {width} l r e count named =
      let length_is : wrong_length plain (number_of k) v ≡ false =
      subst (λ (j : Kind). wrong_length plain (number_of j) v ≡ false) is right.length_right in
      tells r (value (number_of k) (numbers (numbers_of width v))) e (listed_value v l)
      (count ∙ ap (λ (j : Kind). length v / size_of (number_of j)) is ∙ sym (listed_count l v length_is)
      ∙ ap (λ (x : rfc.Value). length (elements x)) (listed_value v l))
      named
