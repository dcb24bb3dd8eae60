-- Which fields option 52 names, by what it says (`names_file` and `names_sname` of `specs/Aggregate.antt`).
-- Assumes nothing.
use mathlib.Core.Path.{◌≡◌, refl}
use Prim.Native.Nat.{ℕ}
use mathlib.Core.Bool.{Bool, true, false, ◌||◌}
use lib.Dec.{eqb}
use Rattle.rfc.specs.Aggregate.{names_file, names_sname}

-- each by its own number, and both by 3
pub file_named : (n : ℕ) → names_file n ≡ (eqb n 1 || eqb n 3)
unfolding names_file
file_named n = refl

pub sname_named : (n : ℕ) → names_sname n ≡ (eqb n 2 || eqb n 3)
unfolding names_sname
sname_named n = refl

abbrev pub Names : ℕ → Bool → Bool → Type 0
Names n file sname = (names_file n ≡ file) × (names_sname n ≡ sname)

pub names-file : (n : ℕ) → n ≡ 1 → Names n true false
unfolding names_file names_sname
names-file n e = rw e (refl, refl)

pub names-sname : (n : ℕ) → n ≡ 2 → Names n false true
unfolding names_file names_sname
names-sname n e = rw e (refl, refl)
