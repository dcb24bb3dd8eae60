-- Any two answers that a contract of this crate allows are equal, and so is what they leave in the join buffer.
-- Assumes nothing.
use mathlib.Core.Path.{◌≡◌, refl, sym, ap, ◌∙◌}
use Prim.Native.Nat.{ℕ}
use mathlib.Core.List.{List}
use Rattle.facts.proofs.Unique.{Unique, UniqueLeft, UniqueShown}
use Rattle.std.specs.Prelude.{Result, Ok, Err}
use Rattle.rfc.specs.Numbers.{Answer, given}
use Rattle.rfc.specs.Walk as rfc
use Rattle.refusal.specs.Told.{told}
use Rattle.refusal.specs.declared.Refusal.{Refusal}
use Rattle.refusal.proofs.Told.{told_one}
pub use Rattle.borrowed.specs.Walked.{stop_back}
use Rattle.borrowed.specs.Walked.{stop_of, sizes, says, Inside, Walked}
use Rattle.borrowed.specs.declared.answer.Stop.{Stop}
use Rattle.borrowed.specs.declared.answer.Stop.TheVariants.{Out, End, CutLength, CutValue, CutContinuation}
use Rattle.borrowed.specs.declared.answer.Step.{Step}
use Rattle.borrowed.specs.declared.answer.Step.TheVariants.{Stopped, Found}
use Rattle.borrowed.proofs.Refusals.{says_sized}
use Rattle.borrowed.proofs.Shown.{length_shown}
use Rattle.borrowed.proofs.look.Kinds as look-kinds
use Rattle.borrowed.proofs.look.Reads as look
use Rattle.borrowed.proofs.step.Kinds as step-kinds
use Rattle.borrowed.proofs.step.Reads as step
use Rattle.borrowed.proofs.first.Kinds as first-kinds
use Rattle.borrowed.proofs.first.Reads as first
use Rattle.borrowed.proofs.part.Kinds as part-kinds
use Rattle.borrowed.proofs.part.Reads as part
use Rattle.borrowed.proofs.answer.Found.value.Kinds as value-kinds
use Rattle.borrowed.proofs.answer.Found.value.Reads as value
use Rattle.borrowed.proofs.place_after.Kinds as place-after-kinds
use Rattle.borrowed.proofs.place_after.Reads as place_after

-- back from what is said to who said it
pub stop-back : (s : Stop) → stop_back (stop_of s) ≡ s
stop-back Out = refl
stop-back End = refl
stop-back CutLength = refl
stop-back CutValue = refl
stop-back CutContinuation = refl

says_back : (r : Result Step Refusal) (area join : List ℕ) → Inside r area join → sizes (says r area join) ≡ told r
says_back (Ok (Stopped s at)) area join i = ap (λ (t : Stop). given (Stopped t at)) (stop-back s)
says_back (Ok (Found f)) area join i =
    ap (λ (n : ℕ). given (Found (record { code = f.code; parts = f.parts; len = n; place = f.place })))
    (length_shown f.parts f.len f.place area join i.0 i.1 i.2)
says_back (Err e) area join i = says_sized e

pub walked_one : {area join j₁ j₂ : List ℕ} {r₁ r₂ : Result Step Refusal} {a : Answer rfc.Found}
    → Walked area join j₁ r₁ a → Walked area join j₂ r₂ a → (r₁ ≡ r₂) × (j₁ ≡ j₂)
walked_one {area = area} {j₁ = j₁} {j₂ = j₂} {r₁ = r₁} {r₂ = r₂} p q = (
  told_one r₁ r₂ (sym (says_back r₁ area j₁ p.inside) ∙ ap sizes (p.told ∙ sym q.told) ∙ says_back r₂ area j₂ q.inside),
  p.kept ∙ sym q.kept,
)

look_unique : Unique 1 look-kinds.ps look-kinds.r look.Post
look_unique κs a x y s t p q = told_one x y (p ∙ sym q)

step_unique : UniqueLeft 2 step-kinds.ps step-kinds.r step.Post (λ κs s. s.1.1.0.now)
step_unique κs a x y s t p q = walked_one p q

first_unique : Unique 1 first-kinds.ps first-kinds.r first.Post
first_unique κs a x y s t p q = p ∙ sym q

part_unique : UniqueShown 1 part-kinds.ps part-kinds.r part.Post (λ κs x. x.now)
part_unique κs a x y s t p q = p ∙ sym q

value_unique : UniqueShown 1 value-kinds.ps value-kinds.r value.Post (λ κs x. x.now)
value_unique κs a x y s t p q = p ∙ sym q

place_after_unique : Unique 0 place-after-kinds.ps place-after-kinds.r place_after.Post
place_after_unique κs a x y s t p q = p ∙ sym q
