-- What a number that is written as bytes keeps.
-- Assumes nothing.
use Rattle.std.specs.Prelude.{ℕ, suc, ◌≡◌, List, [], ◌∷◌, map, refl}
use mathlib.Core.Path.{sym, ap}
use Rattle.rfc.specs.Typed.{digits_of}

-- the width is not 0, and the bytes of several are those of their values, each of the width
pub record NumberLaws {A : Type 0} (width : ℕ) (value : A → ℕ) (bytes : List A → List ℕ) : Type 0 where
  pub less : ℕ
  pub some : width ≡ suc less
  pub all : (l : List A) → bytes l ≡ digits_of width (map value l)

-- a number of the code is its own value
abbrev pub itself : ℕ → ℕ
itself n = n

pub all_itself : (l : List ℕ) → map itself l ≡ l
all_itself [] = refl
all_itself (n ∷ l) = ap (λ (k : List ℕ). n ∷ k) (all_itself l)

pub laws_of : (less : ℕ) → NumberLaws (suc less) itself (digits_of (suc less))
laws_of less = record { less = less; some = refl; all = λ l. sym (ap (digits_of (suc less)) (all_itself l)) }
