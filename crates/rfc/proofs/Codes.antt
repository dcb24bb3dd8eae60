-- The laws of `specs/Kinds.antt`: which numbers are kinds, the kind of a range of codes and of single ones, and which kinds have elements of
-- some bytes.
-- Assumes nothing.
use mathlib.Core.Path.{◌≡◌, refl}
use mathlib.Core.Bool.{true}
use Prim.Native.Nat.{ℕ, ◌+◌, ◌-◌, ◌≤◌, ◌<◌}
use borrow.Author.Tests.{ltb-true, eqb-true}
use lib.Dec.{eqb, ltb}
use lib.ListN.{get_or-eq_default}
use Rattle.facts.specs.Ranges.{lookup, within}
use Rattle.facts.proofs.Ranges.{lookup_below}
use Rattle.facts.proofs.Table.{values, every, each, each_within}
use Rattle.rfc.specs.Numbers.{pad_code, end_code}
use Rattle.rfc.specs.Kinds.{kinds, kind_of, sizes, size_of}

-- a kind is a number from 0 to 15
pub kind_below : (code : ℕ) → kind_of code < 16
unfolding kind_of kinds
kind_below code = lookup_below 16 0 kinds code refl

-- a code from one to another is of this kind, where each of them is, as antt computes. (In a function that goes by ranges, the search takes
-- both ends from the tests.)
pub kind_from_to : (low high kind : ℕ) → every (eqb kind) (values kind_of low (high + 1 - low)) ≡ true
    → (code : ℕ) → low ≤ code → code ≤ high → kind ≡ kind_of code
kind_from_to low high kind all code from to = eqb-true kind (kind_of code) (each_within (eqb kind) kind_of low high code all from to)

-- code 2, a number of seconds, is an i32
pub seconds_kind : kind_of 2 ≡ 9
unfolding kind_of kinds lookup within
seconds_kind = refl

-- the codes that no option has are raw
pub pad_raw : kind_of pad_code ≡ 0
unfolding kind_of kinds lookup within
pad_raw = refl

pub end_raw : kind_of end_code ≡ 0
unfolding kind_of kinds lookup within
end_raw = refl

-- every kind but the flag has elements of some bytes
pub size_some : (kind : ℕ) → kind < 15 → 0 < size_of kind
unfolding size_of sizes
size_some kind h = ltb-true 0 (size_of kind) (each (ltb 0) size_of 15 kind refl h)

-- what is no kind has elements of no bytes
pub size_past : (kind : ℕ) → 16 ≤ kind → size_of kind ≡ 0
unfolding size_of sizes
size_past kind h = get_or-eq_default sizes 0 h
