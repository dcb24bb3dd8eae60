-- What the library tells of an answer, told of what crosses.
-- Assumes nothing.
use mathlib.Core.Path.{◌≡◌, refl, sym, ap, ◌∙◌}
use Prim.Native.Nat.{ℕ}
use mathlib.Core.List.{List, []}
use Rattle.rfc.specs.Numbers.{Answer}
use Rattle.rfc.specs.Walk as walk
use Rattle.rfc.specs.Values as rfc
use Rattle.rfc.specs.Writing.{Write}
use Rattle.std.specs.Prelude.{Result, Ok, Err}
use Rattle.refusal.specs.declared.Refusal.{Refusal}
use Rattle.refusal.proofs.Told.{says_as}
use Rattle.borrowed.specs.Walked as walked
use Rattle.borrowed.specs.declared.answer.Step as call
use Rattle.borrowed.specs.declared.answer.Step.TheVariants.{Stopped, Found}
use Rattle.borrowed.proofs.Shown.{length_shown}
use Rattle.values.specs.Reading.{says, count_of, ReadAs}
use Rattle.values.specs.declared.answer.Value as held
use Rattle.values.specs.declared.answer.Value.TheVariants as case
use Rattle.crossing.specs.Carried.{step_of, step_here, Steps, holding, value_of, reading_here, Wrote}
use Rattle.crossing.specs.declared.answers.Step.{Step}
use Rattle.crossing.specs.declared.answers.Written.{Written}

-- a step, whose value has the length that was said
step_said : (place : ℕ) (r : Result call.Step Refusal) (area join : List ℕ) → walked.Inside r area join
    → step_here place r ≡ step_of place (walked.says r area join)
step_said place (Ok (Stopped s at)) area join i = refl
step_said place (Ok (Found f)) area join i = rw (length_shown f.parts f.len f.place area join i.0 i.1 i.2)
step_said place (Err e) area join i =
    says_as
    (λ (a b : Answer walk.Found) k len. record { refused = k; stop = 0; code = 0; parts = 0; len = len; place = place } ≡ step_of place a)
    (λ k. refl) (λ len. refl) e

pub step_crosses : {area join join' : List ℕ} {place : ℕ} {r : Result call.Step Refusal} {s : Step} {answer : Answer walk.Found}
    → walked.Walked area join join' r answer → s ≡ step_here place r → Steps place join join' s answer
step_crosses {area = area} {join' = join'} {place = place} {r = r} w e =
    record { told = e ∙ step_said place r area join' w.inside ∙ ap (step_of place) w.told; kept = w.kept }

-- what a value holds crosses without its bytes
bytes_stay : (count : ℕ) (r : held.Value) (v : List ℕ) → holding count (says r []) ≡ holding count (says r v)
bytes_stay count case.Raw v = refl
bytes_stay count (case.Address n) v = refl
bytes_stay count (case.Addresses n) v = refl
bytes_stay count (case.Pairs n) v = refl
bytes_stay count (case.Byte n) v = refl
bytes_stay count (case.YesNo t) v = refl
bytes_stay count (case.U16 n) v = refl
bytes_stay count (case.U16s n) v = refl
bytes_stay count (case.U32 n) v = refl
bytes_stay count (case.I32 z) v = refl
bytes_stay count case.Text v = refl
bytes_stay count (case.Codes n) v = refl
bytes_stay count (case.NodeType node) v = refl
bytes_stay count (case.MessageType n) v = refl
bytes_stay count (case.ThreeBytes a b c) v = refl
bytes_stay count case.Flag v = refl

pub reading_crosses : (v : List ℕ) (a : Answer rfc.Value) (r : Result held.Value Refusal) → ReadAs v a r → reading_here r ≡ value_of a
reading_crosses v a (Ok r) t =
    bytes_stay (count_of r) r v ∙ ap (λ (n : ℕ). holding n (says r v)) t.exact.counted ∙ ap value_of t.told
reading_crosses v a (Err e) t =
    says_as (λ (x y : Answer rfc.Value) k len. record { refused = k; kind = 0; number = 0; count = 0 } ≡ value_of x) (λ k. refl) (λ len. refl) e
    ∙ ap value_of t

-- two answers to one write, and what they leave
pub wrote_one : {w : Write} {room r₁ r₂ : List ℕ} {place : ℕ} {a b : Written}
    → Wrote w room r₁ place a → Wrote w room r₂ place b → (a ≡ b) × (r₁ ≡ r₂)
wrote_one p q = (p.told ∙ sym q.told, p.left ∙ sym q.left)
