-- What the reading of a whole option answers, by what the step answered.
-- Assumes nothing.
use mathlib.Core.Path.{◌≡◌, sym, ap, ◌∙◌, subst}
use Prim.Native.Nat.{ℕ}
use mathlib.Core.List.{List}
use Rattle.std.specs.Prelude.{Result, Ok, Err}
use Rattle.rfc.specs.Numbers.{Answer, given, and_then}
use Rattle.rfc.specs.Walk.{option}
use Rattle.rfc.specs.Values as rfc
use Rattle.rfc.specs.Values.{Mode, valued, read, read_found, read_option}
use Rattle.rfc.proofs.Readings.{option_stopped, value_given}
use Rattle.refusal.specs.Told as refusal
use Rattle.refusal.specs.declared.Refusal.{Refusal}
use Rattle.refusal.proofs.Told.{says_then}
use Rattle.values.specs.Reading.{Tells}
use Rattle.values.specs.declared.answer.Value.{Value}
use Rattle.borrowed.specs.Walked.{stop_of, shown, says}
use Rattle.borrowed.specs.declared.answer.Found as found
use Rattle.borrowed.specs.declared.answer.Stop.{Stop}
use Rattle.borrowed.specs.declared.answer.Step.{Step}
use Rattle.borrowed.specs.declared.answer.Step.TheVariants as step
use Rattle.whole.specs.Whole.{shown_by, ValueTells, ReadWhole}
use Rattle.whole.specs.declared.Whole.{Whole}
use Rattle.whole.specs.declared.Whole.TheVariants as whole

module _ (mode : Mode) (area join : List ℕ) where
  -- r is what the reading of a step answers
  abbrev pub Answers : Result Step Refusal → Result Whole Refusal → Type 0
  Answers found r = ReadWhole (shown_by found area join) (read_option mode (says found area join)) r

  -- what is no option passes through
  pub passes_refused : {found : Result Step Refusal} {e : Refusal} → found ≡ Err e → Answers found (Err e)
  unfolding read_option
  passes_refused {found} {e} is = rw is (sym (says_then (read_found mode) e))

  pub passes_stop : {found : Result Step Refusal} {s : Stop} {at : ℕ} → found ≡ Ok (step.Stopped s at) → Answers found (Ok (whole.Stopped s at))
  passes_stop {found} {s} {at} is = rw is (sym (option_stopped mode (stop_of s) at))

  -- an option is read
  module _ (f : found.Found) {v : List ℕ} (shows : v ≡ shown f.parts f.len f.place area join) where
    pub not_read : (e : Refusal) → refusal.says e ≡ read mode f.code v → Answers (Ok (step.Found f)) (Err e)
    unfolding read_option and_then read_found
    not_read e told =
        let put : rfc.Value → Answer rfc.Whole = λ x. given (valued f.code x f.place) in
        sym (says_then put e) ∙ ap (λ (a : Answer rfc.Value). and_then a put) (told ∙ ap (read mode f.code) shows)

    pub is_read : (value : Value) → Tells v (read mode f.code v) value
        → Answers (Ok (step.Found f)) (Ok (whole.Valued f.code value f.place))
    is_read value t =
        subst (λ (l : List ℕ). ValueTells l (read_option mode (given (option f.code l f.parts f.place))) f.code value f.place) shows
        (record { told = sym (value_given mode f.code v f.parts f.place _ (sym t.told)); exact = t.exact })
