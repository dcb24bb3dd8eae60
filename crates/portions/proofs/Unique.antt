-- Any two answers that a contract of this crate allows are equal, and so is where a step leaves the parts.
-- Assumes nothing.
use mathlib.Core.Path.{◌≡◌, sym, ap, ◌∙◌}
use Prim.Native.Nat.{ℕ}
use mathlib.Core.List.{List, ◌∷◌}
use Rattle.std.specs.Prelude.{Option, Some, None, Result, Ok, Err}
use Rattle.facts.proofs.Unique.{Unique, UniqueLeft}
use Rattle.refusal.specs.declared.Refusal.{Refusal}
use Rattle.portions.specs.Told.{Gives}
use Rattle.portions.specs.declared.Portion.{Portion}
use Rattle.portions.proofs.portion_at.Kinds as portion-at-kinds
use Rattle.portions.proofs.portion_at.Reads as portion-at
use Rattle.portions.proofs.PortionsIterator.next.Kinds as next-kinds
use Rattle.portions.proofs.PortionsIterator.next.Reads as next

portion_at_unique : Unique 1 portion-at-kinds.ps portion-at-kinds.r portion-at.Post
portion_at_unique κs a x y s t p q = p ∙ sym q

-- two steps from one place
gives_one : (bytes : List ℕ) (at : ℕ) (r q : Option (Result Portion Refusal)) {f g : List ℕ} {to on : ℕ} → Gives bytes at r f to → Gives bytes at q g on
    → (r ≡ q) × (f ≡ g) × (to ≡ on)
gives_one bytes at None None h k = ((λ i. None), h.1 ∙ sym k.1, h.2 ∙ sym k.2)
gives_one bytes at None (Some (Ok p)) h k = absurd (let z = sym h.0 ∙ k.0 in cc)
gives_one bytes at None (Some (Err e)) h k = absurd (let z = sym h.0 ∙ k.0 in cc)
gives_one bytes at (Some (Ok p)) None h k = absurd (let z = sym h.0 ∙ k.0 in cc)
gives_one bytes at (Some (Ok p)) (Some (Ok q)) h k =
    let z = sym h.0 ∙ k.0 in
    let same : p ≡ q = cc in
    (ap (λ (o : Portion). Some (Ok o)) same, h.1 ∙ sym k.1, h.2 ∙ ap (λ (o : Portion). o.place) same ∙ sym k.2)
gives_one bytes at (Some (Ok p)) (Some (Err e)) h k = absurd (let z = sym h.0 ∙ k.0 in cc)
gives_one bytes at (Some (Err e)) None h k = absurd (let z = sym h.0 ∙ k.0 in cc)
gives_one bytes at (Some (Err e)) (Some (Ok q)) h k = absurd (let z = sym h.0 ∙ k.0 in cc)
gives_one bytes at (Some (Err e)) (Some (Err f)) h k =
    let z = sym h.0 ∙ k.0 in
    let same : e ≡ f = cc in
    (ap (λ (o : Refusal). Some (Err o)) same, h.1 ∙ sym k.1, h.2 ∙ sym k.2)

next_unique : UniqueLeft 2 next-kinds.ps next-kinds.r next.Post (λ κs s. s.0.now.at ∷ s.0.now.bytes.now)
next_unique κs a x y s t p q = let o = gives_one _ _ x y p.0 q.0 in (o.0, λ i. o.2 i ∷ o.1 i)
