-- Every listing ends: an option takes two bytes or more, so the bound of a listing is never what ends it.
-- Assumes nothing.
use mathlib.Core.Path.{◌≡◌, refl}
use Prim.Native.Nat.{ℕ, suc, zero, ◌+◌, ◌≤◌}
use native.Mathlib.Omega.{arith}
use mathlib.Core.List.{List}
use lib.ListN.{length}
use Rattle.rfc.specs.Numbers.{Answer, given, refused, needs}
use Rattle.rfc.specs.Walk.{Found, stop, option, step}
use Rattle.rfc.specs.Lists.{Listing, onward, list_in, listing, Ending, at_stop, at_number, at_needs}
use Rattle.rfc.proofs.Walk.{step_walked}
use Rattle.rfc.proofs.Places.{option_takes, walk_stands}

-- an option that a call from a place finds ends two bytes behind it or more, and within the area's so many bytes
abbrev pub MovesCall : ℕ → ℕ → Answer Found → Type 0
MovesCall place size (given (stop s p)) = Unit {0}
MovesCall place size (given (option code v n p)) = (place + 2 ≤ p) × (p ≤ size)
MovesCall place size (refused k) = Unit {0}
MovesCall place size (needs n) = Unit {0}

pub moves_step : (area : List ℕ) (place room : ℕ) → MovesCall place (length area) (step area place room)
moves_step area place room = go (step area place room) refl
  where
    go : (a : Answer Found) → step area place room ≡ a → MovesCall place (length area) a
    go (given (stop s p)) e = tt
    go (given (option code v n p)) e =
        let w = step_walked area place room (option code v n p) e in
        let s = walk_stands area code v n p place w in
        (omega (arith, option_takes area place p code v n w, s.some), s.within)
    go (refused k) e = tt
    go (needs n) e = tt

-- a call at the area's end finds no option
ends_last : (size place : ℕ) (a : Answer Found) → MovesCall place size a → size ≤ place → Ending a
ends_last size place (given (stop s p)) m h = at_stop s p
ends_last size place (given (option code v n p)) m h = absurd (omega arith)
ends_last size place (refused k) m h = at_number k
ends_last size place (needs n) m h = at_needs n

ends_onward : (size place k : ℕ) (a : Answer Found) (more : ℕ → Listing) → MovesCall place size a → size ≤ place + suc k
    → ((p : ℕ) → size ≤ p + k → Ending (more p).ending) → Ending (onward a more).ending
unfolding onward
ends_onward size place k (given (stop s p)) more m h ih = at_stop s p
ends_onward size place k (given (option code v n p)) more m h ih = ih p (omega arith)
ends_onward size place k (refused j) more m h ih = at_number j
ends_onward size place k (needs n) more m h ih = at_needs n

ends_in : (area : List ℕ) (room k place : ℕ) → length area ≤ place + k → Ending (list_in k area room place).ending
unfolding list_in
ends_in area room zero place h = ends_last (length area) place (step area place room) (moves_step area place room) (omega arith)
ends_in area room (suc k) place h =
    ends_onward (length area) place k (step area place room) (list_in k area room) (moves_step area place room) h
    (λ p g. ends_in area room k p g)

pub ends : (area : List ℕ) (room : ℕ) → Ending (listing area room).ending
unfolding listing
ends area room = ends_in area room (length area) 0 (omega arith)
