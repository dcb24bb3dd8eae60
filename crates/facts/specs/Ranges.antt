-- An answer by ranges of numbers, for any type of answer: the first range that holds the number decides.
-- Assumes nothing.
use Rattle.std.specs.Prelude.{ℕ, Bool, cond, ◌&&◌, List, [], ◌∷◌, leb}

-- the numbers from the first to the second are given the answer
pub data Row (A : Type 0) : Type 0 where
  row : ℕ → ℕ → A → Row A

unfoldable pub within : ℕ → ℕ → ℕ → Bool
within low high n = leb low n && leb n high

-- what the first row that holds the number gives it, and `other` where none does
unfoldable pub lookup : {A : Type 0} → A → List (Row A) → ℕ → A
lookup other [] n = other
lookup other (row low high answer ∷ rows) n = cond (within low high n) answer (lookup other rows n)
