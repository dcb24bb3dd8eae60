-- What the contract of a whole option's reading says, over the definitions of `Rattle.rfc.specs.Values`.
-- Assumes nothing.
use Rattle.std.specs.Prelude.{ℕ, ◌≡◌, List, [], Result, Ok, Err}
use Rattle.rfc.specs.Numbers.{Answer, given}
use Rattle.rfc.specs.Values as rfc
use Rattle.rfc.specs.Values.{stopped, valued}
use Rattle.refusal.specs.Told as refusal
use Rattle.refusal.specs.declared.Refusal.{Refusal}
use Rattle.values.specs.Reading.{says, Exact}
use Rattle.values.specs.declared.answer.Value.{Value}
use Rattle.borrowed.specs.Walked.{stop_of, shown}
use Rattle.borrowed.specs.declared.answer.Step.{Step}
use Rattle.borrowed.specs.declared.answer.Step.TheVariants as step
use Rattle.whole.specs.declared.Whole.{Whole}
use Rattle.whole.specs.declared.Whole.TheVariants.{Stopped, Valued}

-- the bytes that a step shows: an option's value
abbrev pub shown_by : Result Step Refusal → List ℕ → List ℕ → List ℕ
shown_by (Ok (step.Stopped s at)) area join = []
shown_by (Ok (step.Found f)) area join = shown f.parts f.len f.place area join
shown_by (Err e) area join = []

-- of the bytes v, a value tells the answer
pub record ValueTells (v : List ℕ) (answer : Answer rfc.Whole) (code : ℕ) (value : Value) (place : ℕ) : Type 0 where
  pub told : given (valued code (says value v) place) ≡ answer
  pub exact : Exact v value

-- of the bytes v, the reading of a whole option tells the answer
abbrev pub ReadWhole : List ℕ → Answer rfc.Whole → Result Whole Refusal → Type 0
ReadWhole v answer (Ok (Stopped s at)) = given (stopped (stop_of s) at) ≡ answer
ReadWhole v answer (Ok (Valued code value place)) = ValueTells v answer code value place
ReadWhole v answer (Err e) = refusal.says e ≡ answer
