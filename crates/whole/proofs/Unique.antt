-- Any two answers that the contract of `read_option` allows are equal.
-- Assumes nothing.
use mathlib.Core.Path.{◌≡◌, sym, ap, ◌∙◌}
use mathlib.Core.List.{List}
use Prim.Native.Nat.{ℕ}
use Rattle.std.specs.Prelude.{Result, Ok, Err}
use Rattle.facts.proofs.Unique.{Unique}
use Rattle.rfc.specs.Numbers.{Answer, given, and_then}
use Rattle.rfc.specs.Values as rfc
use Rattle.rfc.specs.Values.{stopped, valued}
use Rattle.refusal.specs.Told.{told}
use Rattle.refusal.specs.declared.Refusal.{Refusal}
use Rattle.refusal.proofs.Told.{told_one, says_then}
use Rattle.values.specs.declared.answer.Value.{Value}
use Rattle.values.proofs.Unique.{back, says_back}
use Rattle.borrowed.specs.declared.answer.Stop.{Stop}
use Rattle.borrowed.proofs.Unique.{stop_back, stop-back}
use Rattle.whole.specs.Whole.{ReadWhole}
use Rattle.whole.specs.declared.Whole.{Whole}
use Rattle.whole.specs.declared.Whole.TheVariants.{Stopped, Valued}
use Rattle.whole.proofs.read_option.Kinds as read-option-kinds
use Rattle.whole.proofs.read_option.Reads as read-option

-- back from what is said to who said it
whole_back : rfc.Whole → Answer Whole
whole_back (stopped s at) = given (Stopped (stop_back s) at)
whole_back (valued code x place) = given (Valued code (back x) place)

abbrev answer_back : Answer rfc.Whole → Answer Whole
answer_back answer = and_then answer whole_back

whole-back : (v : List ℕ) (a : Answer rfc.Whole) (r : Result Whole Refusal) → ReadWhole v a r → told r ≡ answer_back a
unfolding whole_back and_then
whole-back v a (Ok (Stopped s at)) t = ap (λ (x : Stop). given (Stopped x at)) (sym (stop-back s)) ∙ ap answer_back t
whole-back v a (Ok (Valued code value place)) t =
    ap (λ (x : Value). given (Valued code x place)) (sym (says_back value v t.exact)) ∙ ap answer_back t.told
whole-back v a (Err e) t = sym (says_then whole_back e) ∙ ap answer_back t

read_option_unique : Unique 1 read-option-kinds.ps read-option-kinds.r read-option.Post
read_option_unique κs a x y s t p q = told_one x y (whole-back _ _ x p ∙ sym (whole-back _ _ y q))
