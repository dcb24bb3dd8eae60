-- What a refusal says of the walk: it stands, and leaves the join buffer and the place.
-- Assumes nothing.
use mathlib.Core.Path.{◌≡◌, refl}
use Prim.Native.Nat.{ℕ}
use mathlib.Core.List.{List}
use Rattle.rfc.specs.Numbers.{Answer, given, refused, needs}
use Rattle.rfc.specs.Walk as rfc
use Rattle.rfc.specs.Walk.{join_after, place_after}
use Rattle.rfc.proofs.Walk.{refused_keeps, needs_keeps, refused_stays, needs_stays}
use Rattle.refusal.specs.Told.{says}
use Rattle.refusal.specs.declared.Refusal.{Refusal}
use Rattle.refusal.proofs.Told.{says_as, says_given}
use Rattle.borrowed.specs.Walked.{sizes}
use Rattle.borrowed.specs.declared.answer.Step.{Step}

-- by its numbers it is the same
pub says_sized : (e : Refusal) → sizes (says e) ≡ says e
says_sized = says_as (λ (a : Answer rfc.Found) (b : Answer Step) k n. sizes a ≡ b) (λ k. refl) (λ n. refl)

pub says_is : (e : Refusal) (a : Answer rfc.Found) → says e ≡ sizes a → a ≡ says e
says_is e (given f) = λ h. absurd (says_given _ e h)
says_is e (refused k) =
    says_as (λ (b : Answer Step) (a : Answer rfc.Found) j n. b ≡ refused k → refused k ≡ a) (λ j h. cc) (λ n h. cc) e
says_is e (needs n) =
    says_as (λ (b : Answer Step) (a : Answer rfc.Found) j m. b ≡ needs n → needs n ≡ a) (λ j h. cc) (λ m h. cc) e

-- it leaves the join buffer and the place
pub says_keeps : (join : List ℕ) (e : Refusal) → join_after (says e) join ≡ join
says_keeps join = says_as (λ (a b : Answer rfc.Found) k n. join_after a join ≡ join) (refused_keeps join) (needs_keeps join)

pub says_stays : (place : ℕ) (e : Refusal) → place_after (says e) place ≡ place
says_stays place =
    says_as (λ (a b : Answer rfc.Found) k n. place_after a place ≡ place) (λ k. refused_stays k place) (λ n. needs_stays n place)
