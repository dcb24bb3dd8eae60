-- Any two answers that a contract of this crate allows are equal, and so is what they leave in the join buffer and of the walk.
-- Assumes nothing.
use mathlib.Core.Path.{◌≡◌, sym, ◌∙◌}
use Prim.Native.Nat.{ℕ}
use mathlib.Core.List.{List}
use Rattle.std.specs.Prelude.{Result}
use Rattle.facts.proofs.Unique.{UniqueLeft, UniqueByHand, together}
use Rattle.refusal.specs.declared.Refusal.{Refusal}
use Rattle.borrowed.specs.declared.answer.Step.{Step}
use Rattle.borrowed.proofs.Unique.{walked_one}
use Rattle.lent.specs.Moved.{Moved}
use Rattle.lent.specs.declared.Walk.{Walk}
use Rattle.lent.specs.contracts.Walk.next as next
use Rattle.lent.proofs.next_from.Kinds as next-from-kinds
use Rattle.lent.proofs.next_from.Reads as next-from

moved_one : {area join j₁ j₂ : List ℕ} {place p₁ p₂ : ℕ} {r₁ r₂ : Result Step Refusal}
    → Moved area place p₁ join j₁ r₁ → Moved area place p₂ join j₂ r₂ → (r₁ ≡ r₂) × (j₁ ≡ j₂) × (p₁ ≡ p₂)
moved_one m n =
    let w = walked_one m.stepped n.stepped in
    (w.0, w.1, m.moved ∙ sym n.moved)

next_unique : UniqueByHand next.ended (λ M 𝓤 𝓛. next.clauses 𝓛) (List ℕ × Walk) (λ κs s. (s.1.1.0.now, s.0.now))
next_unique M 𝓤 𝓛 mem run κs a g x y s t =
    together 𝓤 (λ m n. let o = moved_one m n in (o.0, λ i. (o.1 i, record { place = o.2 i })))

next_from_unique : UniqueLeft 2 next-from-kinds.ps next-from-kinds.r next-from.Post (λ κs s. s.1.1.0.now)
next_from_unique κs a x y s t p q = walked_one p q
