-- A refusal crosses by its number.
-- Assumes nothing.
use mathlib.Core.Path.{◌≡◌, refl}
use Prim.Native.Nat.{ℕ}
use Rattle.rfc.specs.Numbers.{Answer}
use Rattle.rfc.specs.Routes.{Route}
use Rattle.rfc.specs.Classless.{RouteThere}
use Rattle.refusal.specs.declared.Refusal.{Refusal}
use Rattle.refusal.specs.Told.{says, number_of}
use Rattle.refusal.proofs.Told.{says_as}
use Rattle.sindovaleph_moves.specs.Crossed.{none_at, route_here, index_here, count_of}

pub here_refused : (place : ℕ) (e : Refusal) → none_at (number_of e) place ≡ route_here place (says e)
here_refused place =
    says_as (λ (a b : Answer RouteThere) k len. none_at k place ≡ route_here place a) (λ k. refl) (λ len. refl)

pub index_refused : (e : Refusal) → none_at (number_of e) 0 ≡ index_here (says e)
index_refused = says_as (λ (a b : Answer Route) k len. none_at k 0 ≡ index_here a) (λ k. refl) (λ len. refl)

pub count_refused : (e : Refusal) → record { refused = number_of e; count = 0 } ≡ count_of (says e)
count_refused = says_as (λ (a b : Answer ℕ) k len. record { refused = k; count = 0 } ≡ count_of a) (λ k. refl) (λ len. refl)
