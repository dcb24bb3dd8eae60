-- Marks for the numbers of a list in which none stands twice: at each of them stands what its index says, and 0 elsewhere.
-- Assumes nothing.
use mathlib.Core.Path.{◌≡◌, sym, ap, subst, ◌∙◌}
use Prim.Native.Nat.{ℕ, ◌≤◌, ◌<◌}
use native.Mathlib.Omega.{arith}
use native.Mathlib.Decide.{dec_le, ℕ_discrete}
use mathlib.Core.List.{List, [], ◌∷◌, ◌++◌}
use lib.ListN.{length, get_or, replicate, length-set, length-replicate, get_or-replicate, get_or-eq_default}
use lib.Seq.{get_or-set_same, get_or-set_other}
use Rattle.facts.specs.Over.{over}
use Rattle.facts.proofs.Over.{set_over}
use Rattle.facts.proofs.Distinct.{At, at_index, at_front, at-end, not_end, end_only}

pub record Marked (mark : ℕ → ℕ) (ns marks : List ℕ) : Type 0 where
  pub seen : (n i : ℕ) → At n i ns → get_or marks n 0 ≡ mark i
  pub unseen : (n : ℕ) → ((i : ℕ) → At n i ns → ⊥) → get_or marks n 0 ≡ 0

pub marked_none : (mark : ℕ → ℕ) (k : ℕ) → Marked mark [] (replicate k 0)
marked_none mark k =
    record { seen = (λ n i a. absurd (let r = at_index a in omega (arith, r.0))); unseen = (λ n o. blank n (dec_le k n)) }
  where
    blank : (n : ℕ) → Dec (k ≤ n) → ◌≡◌ {A = ℕ} (get_or (replicate k 0) n 0) 0
    blank n (yes h) = get_or-eq_default (replicate {A = ℕ} k 0) 0 {n = n} (omega (arith, length-replicate {A = ℕ} k 0))
    blank n (no h) = get_or-replicate {A = ℕ} k n 0 0 (omega arith)

-- one number more gets the mark of its index
module _ {mark : ℕ → ℕ} {ns marks : List ℕ} (h : Marked mark ns marks) (n : ℕ) (there : n < length marks)
    (new : (i : ℕ) → At n i ns → ⊥) where
  abbrev now : List ℕ
  now = over marks n (mark (length ns) ∷ [])

  same : get_or now n 0 ≡ mark (length ns)
  same = ap (λ (l : List ℕ). get_or l n 0) (sym (set_over marks n _ there)) ∙ get_or-set_same marks n _ 0 there

  other : (m : ℕ) → (n ≡ m → ⊥) → get_or now m 0 ≡ get_or marks m 0
  other m d = ap (λ (l : List ℕ). get_or l m 0) (sym (set_over marks n _ there)) ∙ get_or-set_other marks n m _ 0 (λ e. d (sym e))

  pub marked_length : length now ≡ length marks
  marked_length = ap length (sym (set_over marks n _ there)) ∙ length-set marks n _

  pub marked_more : Marked mark (ns ++ n ∷ []) now
  marked_more = record { seen = (λ m i a. sees m i a (ℕ_discrete n m)); unseen = (λ m o. unsees m o (ℕ_discrete n m)) }
    where
      sees : (m i : ℕ) → At m i (ns ++ n ∷ []) → Dec (n ≡ m) → get_or now m 0 ≡ mark i
      sees m i a (yes e) =
          ap (λ (k : ℕ). get_or now k 0) (sym e) ∙ same
          ∙ ap mark (sym (end_only ns new (subst (λ (k : ℕ). At k i (ns ++ n ∷ [])) (sym e) a)))
      sees m i a (no d) = other m d ∙ h.seen m i (not_end ns d a)

      unsees : (m : ℕ) → ((i : ℕ) → At m i (ns ++ n ∷ []) → ⊥) → Dec (n ≡ m) → get_or now m 0 ≡ 0
      unsees m o (yes e) = absurd (o (length ns) (subst (λ (k : ℕ). At k (length ns) (ns ++ n ∷ [])) e (at-end n ns)))
      unsees m o (no d) = other m d ∙ h.unseen m (λ i a. o i (at_front (n ∷ []) a))
