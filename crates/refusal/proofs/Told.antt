-- Back from what an answer tells to the answer.
-- Assumes nothing.
use mathlib.Core.Path.{◌≡◌, refl, sym, ap, ◌∙◌}
use native.Mathlib.Omega.{arith}
use native.Mathlib.Decide.{ℕ_discrete}
use borrow.Author.Tests.{eq-eqb, ne_eqb}
use Rattle.std.specs.Prelude.{ℕ, ◌<◌, ◌≤◌, cond, eqb, Bool, true, false, Result, Ok, Err}
use Rattle.std.proofs.Math.Bool.{Bool-set}
use Rattle.rfc.specs.Numbers.{Answer, given, refused, needs, and_then}
use Rattle.refusal.specs.declared.Refusal.{Refusal}
use Rattle.refusal.specs.declared.Refusal.TheVariants.{MessageTooShort, TooLong, ChaddrPastEnd, PastEnd, JoinTooShort, NoSuchCode, ValueTooLong, NoRoom, OtherKind, WrongLength, NotUtf8, WidthAbove32, OddPairs, UnclearYesNo, FieldCut, UnclearOverload, SizeAboveBuffer, DestinationBarred, NoOldForm, Other}
use Rattle.refusal.specs.declared.unnamed.Unnamed.{Unnamed}
use Rattle.refusal.specs.Others.{is_other}
use Rattle.refusal.specs.Told.{says, told, number_of, needed_of, named, by_name, refusal_of}

-- a number that no case has is that of one refusal
by_unnamed : (n : ℕ) (other : Bool) (e : is_other n ≡ other) (h : is_other n ≡ true)
    → by_name n other e ≡ Other (record { number = n; unnamed = h })
by_unnamed n true e h = ap (λ (p : is_other n ≡ true). Other (record { number = n; unnamed = p })) (Bool-set _ _ e h)
by_unnamed n false e h = absurd (cc (sym e ∙ h))

by_other : (other : Unnamed) → refusal_of other.number ≡ Other other
unfolding refusal_of
by_other other = by_unnamed other.number (is_other other.number) refl other.unnamed

-- the numbers of the cases: 1 to 19, but for 5
named_range : (n : ℕ) → n < 256 → is_other n ≡ false → (0 < n) × (n ≤ 19) × (n ≡ 5 → ⊥)
named_range n b e = grind arith

-- a case more in front of others
one_more : (n k : ℕ) (e rest : Refusal) → says {A = ℕ} e ≡ refused k → ((n ≡ k → ⊥) → says {A = ℕ} rest ≡ refused n)
    → says {A = ℕ} (cond (eqb n k) e rest) ≡ refused n
one_more n k e rest own more = go (ℕ_discrete n k)
  where
    go : Dec (n ≡ k) → says {A = ℕ} (cond (eqb n k) e rest) ≡ refused n
    go (yes h) = rw (eq-eqb n k h) (own ∙ ap refused (sym h))
    go (no h) = rw (ne_eqb n k h) (more h)

says_named : (n : ℕ) → n < 256 → is_other n ≡ false → says {A = ℕ} (named n) ≡ refused n
unfolding named
says_named n b e =
    one_more n 1 MessageTooShort _ refl (λ n1.
    one_more n 2 TooLong _ refl (λ n2.
    one_more n 3 ChaddrPastEnd _ refl (λ n3.
    one_more n 4 PastEnd _ refl (λ n4.
    one_more n 6 NoSuchCode _ refl (λ n6.
    one_more n 7 ValueTooLong _ refl (λ n7.
    one_more n 8 NoRoom _ refl (λ n8.
    one_more n 9 OtherKind _ refl (λ n9.
    one_more n 10 WrongLength _ refl (λ n10.
    one_more n 11 NotUtf8 _ refl (λ n11.
    one_more n 12 WidthAbove32 _ refl (λ n12.
    one_more n 13 OddPairs _ refl (λ n13.
    one_more n 14 UnclearYesNo _ refl (λ n14.
    one_more n 15 FieldCut _ refl (λ n15.
    one_more n 16 UnclearOverload _ refl (λ n16.
    one_more n 17 SizeAboveBuffer _ refl (λ n17.
    one_more n 18 DestinationBarred _ refl (λ n18.
    ap refused (omega (arith, named_range n b e)))))))))))))))))))

-- the refusal by a number of a byte says that number
pub says_refusal : (n : ℕ) → n < 256 → says {A = ℕ} (refusal_of n) ≡ refused n
unfolding refusal_of
says_refusal n b = go (is_other n) refl
  where
    go : (other : Bool) (e : is_other n ≡ other) → says {A = ℕ} (by_name n other e) ≡ refused n
    go true e = refl
    go false e = says_named n b e

module _ {A : Type 0} where
  back : Answer A → Result A Refusal
  back (given x) = Ok x
  back (refused n) = Err (refusal_of n)
  back (needs len) = Err (JoinTooShort len)

  back_says : (e : Refusal) → back (says e) ≡ Err e
  unfolding back refusal_of named
  back_says MessageTooShort = refl
  back_says TooLong = refl
  back_says ChaddrPastEnd = refl
  back_says PastEnd = refl
  back_says (JoinTooShort len) = refl
  back_says NoSuchCode = refl
  back_says ValueTooLong = refl
  back_says NoRoom = refl
  back_says OtherKind = refl
  back_says WrongLength = refl
  back_says NotUtf8 = refl
  back_says WidthAbove32 = refl
  back_says OddPairs = refl
  back_says UnclearYesNo = refl
  back_says FieldCut = refl
  back_says UnclearOverload = refl
  back_says SizeAboveBuffer = refl
  back_says DestinationBarred = refl
  back_says NoOldForm = refl
  back_says (Other other) = ap Err (by_other other)

  back_told : (r : Result A Refusal) → back (told r) ≡ r
  unfolding back
  back_told (Ok x) = refl
  back_told (Err e) = back_says e

  -- two answers that tell the same are the same
  pub told_one : (r q : Result A Refusal) → told r ≡ told q → r ≡ q
  told_one r q e = sym (back_told r) ∙ ap back e ∙ back_told q

-- two refusals that say the same are the same
pub says_one : (e f : Refusal) → says {A = ℕ} e ≡ says f → e ≡ f
says_one e f same = let own : ◌≡◌ {A = Result ℕ Refusal} (Err e) (Err f) = told_one (Err e) (Err f) same in cc

-- what holds of every number, and of 5 with every length, holds of what a refusal says in answer to either of two questions, of its number
-- and of the length that it needs
pub says_as : {A B : Type 0} (P : Answer A → Answer B → ℕ → ℕ → Type 0) → ((k : ℕ) → P (refused k) (refused k) k 0)
    → ((len : ℕ) → P (needs len) (needs len) 5 len) → (e : Refusal) → P (says e) (says e) (number_of e) (needed_of e)
says_as P numbered needing MessageTooShort = numbered 1
says_as P numbered needing TooLong = numbered 2
says_as P numbered needing ChaddrPastEnd = numbered 3
says_as P numbered needing PastEnd = numbered 4
says_as P numbered needing (JoinTooShort len) = needing len
says_as P numbered needing NoSuchCode = numbered 6
says_as P numbered needing ValueTooLong = numbered 7
says_as P numbered needing NoRoom = numbered 8
says_as P numbered needing OtherKind = numbered 9
says_as P numbered needing WrongLength = numbered 10
says_as P numbered needing NotUtf8 = numbered 11
says_as P numbered needing WidthAbove32 = numbered 12
says_as P numbered needing OddPairs = numbered 13
says_as P numbered needing UnclearYesNo = numbered 14
says_as P numbered needing FieldCut = numbered 15
says_as P numbered needing UnclearOverload = numbered 16
says_as P numbered needing SizeAboveBuffer = numbered 17
says_as P numbered needing DestinationBarred = numbered 18
says_as P numbered needing NoOldForm = numbered 19
says_as P numbered needing (Other other) = numbered other.number

-- a refusal stands, whatever would be made of what was given
pub says_then : {A B : Type 0} (f : A → Answer B) (e : Refusal) → and_then (says e) f ≡ says e
unfolding and_then
says_then {A} {B} f = says_as (λ (a : Answer A) (b : Answer B) k len. and_then a f ≡ b) (λ k. refl) (λ n. refl)

-- nothing is given
pub says_given : {A : Type 0} (x : A) (e : Refusal) → says e ≡ given x → ⊥
says_given {A} x = says_as (λ (a b : Answer A) k len. a ≡ given x → ⊥) (λ k e. cc) (λ n e. cc)

-- the number that a refusal says is that of no other
pub says_number : (e : Refusal) (k : ℕ) → says {A = ℕ} e ≡ refused k → refusal_of k ≡ e
unfolding back
says_number e k s = let own : Err (refusal_of k) ≡ Err e = sym (ap (back {A = ℕ}) s) ∙ back_says e in cc
