-- The laws of `specs/Passes.antt`, check by check: one for each return of the functions that do a pass.
-- Assumes nothing.
use mathlib.Core.Path.{◌≡◌, refl, sym, ap, ◌∙◌}
use Prim.Native.Nat.{ℕ, ◌+◌, ◌≤◌, ◌<◌, min}
use mathlib.Core.Bool.{true, false, cond}
use mathlib.Core.List.{List}
use lib.Dec.{ltb}
use lib.ListN.{length, set}
use Rattle.std.proofs.Common.{◌⊎◌, inl, inr, true≢false}
use borrow.Author.Tests.{le-ltb, lt-ltb, ne_eqb, lt-leb}
use Rattle.std.specs.Prelude.{Option, Some, None, is_some, Result, Ok, Err}
use Rattle.rfc.specs.Numbers.{refused, most_bytes, most_value, first_refusal}
use Rattle.rfc.specs.Writing.{size_in_parts}
use Rattle.rfc.proofs.Numbers.{Refuses, first_is}
use Rattle.rfc.specs.Strung.{RowMade}
use Rattle.refusal.specs.declared.Refusal.{Refusal}
use Rattle.refusal.specs.declared.Refusal.TheVariants.{TooLong, PastEnd, ValueTooLong, NoRoom}
use Rattle.refusal.specs.Told.{refusal_of, says}
use Rattle.refusal.proofs.Told.{says_number}
use Rattle.laying.specs.Passes.{first, refuse, with_len, headed, onward}
use Rattle.laying.specs.Passes.{begun, measured, row_of, turned, opened, added, outcome, answered}
use Rattle.laying.specs.declared.Pass.{Pass}

-- a pass has refused, or it has not
abbrev pub Refused : Pass → Type 0
Refused p = is_some p.refusal ≡ true

abbrev pub Going : Pass → Type 0
Going p = is_some p.refusal ≡ false

pub either_way : (p : Pass) → Refused p ⊎ Going p
either_way p = elim p.refusal as (λ r. (is_some r ≡ true) ⊎ (is_some r ≡ false)) [ Some e ↦ inl refl | None ↦ inr refl ]

pub not_both : (p : Pass) → Refused p → Going p → ⊥
not_both p h g = true≢false (sym h ∙ g)

-- before the first pass
module _ (n place code most : ℕ) where
  pub begun_2 : most_bytes < n → begun n place code most ≡ refuse TooLong (first place code most)
  unfolding begun
  begun_2 h = rw (lt-ltb most_bytes n h)

  pub begun_4 : n ≤ most_bytes → n < place → begun n place code most ≡ refuse PastEnd (first place code most)
  unfolding begun
  begun_4 h g = rw (le-ltb most_bytes n h, lt-ltb n place g)

  pub begun_first : n ≤ most_bytes → place ≤ n → begun n place code most ≡ first place code most
  unfolding begun
  begun_first h g = rw (le-ltb most_bytes n h, le-ltb n place g)

-- a row is measured
module _ (p : Pass) where
  pub measured_refused : (row : Result ℕ Refusal) → Refused p → measured p row ≡ p
  unfolding measured
  measured_refused (Ok n) h = rw h
  measured_refused (Err e) h = rw h

  module _ (h : Going p) where
    pub measured_bad : (e : Refusal) → measured p (Err e) ≡ refuse e p
    unfolding measured
    measured_bad e = rw h

    pub measured_full : (n : ℕ) → most_value < p.len → measured p (Ok n) ≡ p
    unfolding measured
    measured_full n f = rw (h, lt-ltb most_value p.len f)

    pub measured_more : (n : ℕ) → p.len ≤ most_value → measured p (Ok n) ≡ with_len (p.len + n) p
    unfolding measured
    measured_more n f = rw (h, le-ltb most_value p.len f)

-- after a row that is refused there is a refusal
pub measured_stops : (p : Pass) (e : Refusal) → Refused (measured p (Err e))
measured_stops p e =
    elim (either_way p) [
      | inl h ↦ ap (λ (q : Pass). is_some q.refusal) (measured_refused p (Err e) h) ∙ h
      | inr g ↦ ap (λ (q : Pass). is_some q.refusal) (measured_bad p g e)
    ]

-- what a row gives
pub row_bad : (m : RowMade) (k : ℕ) → first_refusal m.checks ≡ k → 0 < k → row_of m ≡ Err (refusal_of k)
unfolding row_of
row_bad m k e h = rw (e, lt-ltb 0 k h)

pub row_good : (m : RowMade) (n : ℕ) → first_refusal m.checks ≤ 0 → n ≡ length m.bytes → row_of m ≡ Ok n
unfolding row_of
row_good m n h e = rw (le-ltb 0 (first_refusal m.checks) h) (ap Ok (sym e))

pub row_refused : (m : RowMade) (e : Refusal) (k : ℕ) → Refuses m.checks k → 0 < k → says {A = ℕ} e ≡ refused k → row_of m ≡ Err e
row_refused m e k r h s = row_bad m k (first_is r) h ∙ ap Err (says_number e k s)

pub row_alike : (m n : RowMade) → first_refusal m.checks ≡ first_refusal n.checks → length m.bytes ≡ length n.bytes → row_of m ≡ row_of n
unfolding row_of
row_alike m n c b = λ i. cond (ltb 0 (c i)) (Err (refusal_of (c i))) (Ok (b i))

-- between the passes
module _ (p : Pass) (n : ℕ) where
  pub turned_refused : Refused p → turned p n ≡ p
  unfolding turned
  turned_refused h = rw h

  module _ (h : Going p) where
    pub turned_7 : most_value < p.len → turned p n ≡ refuse ValueTooLong p
    unfolding turned
    turned_7 g = rw (h, lt-ltb most_value p.len g)

    pub turned_8 : p.len ≤ most_value → n < p.at + size_in_parts p.most p.len → turned p n ≡ refuse NoRoom p
    unfolding turned
    turned_8 g f = rw (h, le-ltb most_value p.len g, lt-ltb n (p.at + size_in_parts p.most p.len) f)

    pub turned_over : p.len ≤ most_value → p.at + size_in_parts p.most p.len ≤ n → turned p n ≡ p
    unfolding turned
    turned_over g f = rw (h, le-ltb most_value p.len g, le-ltb n (p.at + size_in_parts p.most p.len) f)

-- the head of a part, and a byte of it
module _ (p : Pass) (room : List ℕ) where
  pub opened_inside : 0 < p.part → opened (p, room) ≡ (p, room)
  unfolding opened
  opened_inside h = rw (lt-ltb 0 p.part h)

  pub opened_head : (n : ℕ) → p.part ≤ 0 → p.at + 2 ≤ length room → n ≡ min p.most p.len
      → opened (p, room) ≡ (headed n p, set (set room p.at p.code) (p.at + 1) n)
  unfolding opened
  opened_head n h g e = rw (le-ltb 0 p.part h, le-ltb (length room) (p.at + 2) g, e)

  module _ (byte : ℕ) where
    pub added_byte : (p.part ≡ 0 → ⊥) → p.at < length room → added (p, room) byte ≡ (onward p, set room p.at byte)
    unfolding added
    added_byte h g = rw (ne_eqb p.part 0 h, lt-leb (length room) p.at g)

-- what is answered
pub answered_refused : (p : Pass) (e : Refusal) → p.refusal ≡ Some e → answered p ≡ Err e
answered_refused p e h = rw h

pub answered_given : (p : Pass) → Going p → answered p ≡ Ok p.at
answered_given p h = go p.refusal h
  where
    go : (r : Option Refusal) → is_some r ≡ false → outcome r p.at ≡ Ok p.at
    go None g = refl
    go (Some e) g = absurd (true≢false g)
