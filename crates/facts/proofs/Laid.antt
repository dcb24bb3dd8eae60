-- A list laid over another from a place on, run by run: what stands there after each run. Proved once, for runs of any lengths.
-- Assumes nothing.
use mathlib.Core.Path.{◌≡◌, sym, ap, ◌∙◌}
use Prim.Native.Nat.{ℕ, ◌+◌, ◌-◌, ◌≤◌, ◌<◌}
use native.Mathlib.Omega.{arith}
use mathlib.Core.List.{List}
use lib.ListN.{length, take, drop, set, get_or}
use lib.Seq.{length-take-le, take_all, drop-cons}
use Rattle.facts.specs.Over.{over}
use Rattle.facts.proofs.Over.{over_nil, over_lap, set_over, length_over}

-- of all that goes over d from a place on, the first k stand in d'
pub record Laid (d d' all : List ℕ) (at k : ℕ) : Type 0 where
  pub fits : at + length all ≤ length d
  pub within : k ≤ length all
  pub keeps : length d' ≡ length d
  pub put : d' ≡ over d at (take k all)

pub laid : (d all : List ℕ) (at k : ℕ) → at + length all ≤ length d → k ≤ length all
    → {d' : List ℕ} → d' ≡ over d at (take k all) → Laid d d' all at k
laid d all at k h g e =
    record {
      fits = h;
      within = g;
      keeps = ap length e ∙ length_over d at (take k all) (omega (arith, length-take-le k all g));
      put = e;
    }

pub laid_none : (d all : List ℕ) (at : ℕ) → at + length all ≤ length d → Laid d d all at 0
laid_none d all at h = laid d all at 0 h (omega arith) (sym (over_nil d at))

module _ {d d' all : List ℕ} {at j : ℕ} (s : Laid d d' all at j) where
  -- the n from the kth on, which begin among the first j or right behind them
  pub laid_again : (k n : ℕ) → k ≤ j → j ≤ k + n → k + n ≤ length all
      → {d'' : List ℕ} → d'' ≡ over d' (at + k) (take n (drop k all)) → Laid d d'' all at (k + n)
  laid_again k n g h f e =
      laid d all at (k + n) s.fits f
      (e ∙ ap (λ (x : List ℕ). over x (at + k) (take n (drop k all))) s.put
      ∙ over_lap d at all k n (omega (arith, s.fits)) f j g h)

  -- the next n
  pub laid_more : (n : ℕ) → j + n ≤ length all → {d'' : List ℕ} → d'' ≡ over d' (at + j) (take n (drop j all)) → Laid d d'' all at (j + n)
  laid_more n f e = laid_again j n (omega arith) (omega arith) f e

  -- the next one, by a store
  pub laid_set : j < length all → Laid d (set d' (at + j) (get_or all j 0)) all at (j + 1)
  laid_set h =
      laid_more 1 (omega arith)
      (set_over d' (at + j) (get_or all j 0) (omega (arith, s)) ∙ ap (over d' (at + j)) (sym (ap (take 1) (drop-cons all j 0 h))))

  pub laid_all : length all ≤ j → d' ≡ over d at all
  laid_all h = s.put ∙ ap (over d at) (take_all j all h)

-- the last n, which begin among the first j or right behind them
pub laid_last : {d d' all : List ℕ} {at j : ℕ} → Laid d d' all at j → (n : ℕ) → n ≤ length all → length all ≤ j + n
    → {d'' : List ℕ} → d'' ≡ over d' (at + (length all - n)) (take n (drop (length all - n) all)) → d'' ≡ over d at all
laid_last {all = all} s n g h e =
    laid_all (laid_again s (length all - n) n (omega arith) (omega (arith, s.within)) (omega arith) e) (omega arith)
