-- Any two answers that a contract allows are equal, and so are any two contents that it allows lent memory to have afterwards:
-- what that means for any function. `Post` is the contract itself as the checker reads it, so that nothing is stated twice.
-- Assumes nothing.
use mathlib.Core.Path.{◌≡◌}
use mathlib.Core.List.{List}
use Prim.Native.Nat.{ℕ}
use seplogic.Ra.Ura.{Ura}
use base.Logic.{SProp, ent, sep, fst∗, snd∗}
use prog.Memory.{Memory}
use prog.Routine.{Routine}
use types.Logic.{Logic}
use contract.Lifetimes.{Lfts}
use contract.Monad.{Fun, fact, fact_i, fact_use}
use denote.Triple.Clauses.{Ended, Clauses, AtExit}
use denote.Triple.Entry.{Args, Res}
use borrow.Fn.Kinds.{ParamKind, ResultKind, Out, Dens, res_t, ended_of}

-- a function of n lifetimes, with parameters and a result of these kinds
module _ (n : ℕ) (ps : List (ParamKind n)) (r : ResultKind n) (Post : Out n ps r) where
  -- the arguments decide the answer
  abbrev pub Unique : Type 0
  Unique =
      (κs : Lfts n) (a : Dens κs ps) (x y : (res_t r κs).Denot) (s t : AtExit (ended_of n ps r) κs)
      → Post κs a x s → Post κs a y t → x ≡ y

  -- the arguments decide the answer and what a lent buffer then holds
  abbrev pub UniqueLeft : ((κs : Lfts n) → AtExit (ended_of n ps r) κs → List ℕ) → Type 0
  UniqueLeft left =
      (κs : Lfts n) (a : Dens κs ps) (x y : (res_t r κs).Denot) (s t : AtExit (ended_of n ps r) κs)
      → Post κs a x s → Post κs a y t → (x ≡ y) × (left κs s ≡ left κs t)

  -- the arguments decide the bytes of a slice that is answered
  abbrev pub UniqueShown : ((κs : Lfts n) → (res_t r κs).Denot → List ℕ) → Type 0
  UniqueShown shown =
      (κs : Lfts n) (a : Dens κs ps) (x y : (res_t r κs).Denot) (s t : AtExit (ended_of n ps r) κs)
      → Post κs a x s → Post κs a y t → shown κs x ≡ shown κs y

-- the same on the contract's clauses as they are written, which are statements of the logic, and not on the `Post` that the checker reads
-- of them. Where these allow one answer and what it leaves, and allow another, the two are equal
module _ (T : Ended) (clauses : (M : Type 1) (𝓤 : Ura M) (𝓛 : Logic 𝓤) → (Memory → SProp 𝓤) → (Routine → Fun 𝓤) → Clauses 𝓤 T)
    (X : Type 0) (left : (κs : Lfts T.signature.lifetimes) → AtExit T κs → X) where
  abbrev pub UniqueByHand : Type 2
  UniqueByHand =
      (M : Type 1) (𝓤 : Ura M) (𝓛 : Logic 𝓤) (mem : Memory → SProp 𝓤) (run : Routine → Fun 𝓤)
      (κs : Lfts T.signature.lifetimes) (a : Args T.signature κs) (g : (clauses M 𝓤 𝓛 mem run κs a).ghost)
      (x y : Res T.signature κs) (s t : AtExit T κs)
      → ent 𝓤 (sep 𝓤 ((clauses M 𝓤 𝓛 mem run κs a).ensures g x s) ((clauses M 𝓤 𝓛 mem run κs a).ensures g y t))
      (fact 𝓤 ((x ≡ y) × (left κs s ≡ left κs t)))

-- clauses that state facts: two facts together give a third
pub together : {M : Type 1} (𝓤 : Ura M) {φ ψ χ : Type 0} → (φ → ψ → χ) → ent 𝓤 (sep 𝓤 (fact 𝓤 φ) (fact 𝓤 ψ)) (fact 𝓤 χ)
together 𝓤 {φ} {ψ} {χ} k =
    fact_use 𝓤 φ (fst∗ 𝓤 (fact 𝓤 φ) (fact 𝓤 ψ)) (λ p. fact_use 𝓤 ψ (snd∗ 𝓤 (fact 𝓤 φ) (fact 𝓤 ψ)) (λ q. fact_i 𝓤 χ _ (k p q)))
