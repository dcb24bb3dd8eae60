-- The texts that are added: a number in decimal, a number behind a word, and bytes, each behind a space.
-- Assumes nothing.
use Rattle.std.specs.Prelude.{ℕ, suc, zero, ◌+◌, ◌/◌, ◌%◌, cond, List, [], ◌∷◌, ◌++◌, ltb}

abbrev pub space : List ℕ
space = 32 ∷ []

-- a number in decimal, with no more than so many digits: below ten it is a digit, and else the digits of its tenth and then its last one
unfoldable pub decimal_in : ℕ → ℕ → List ℕ
decimal_in zero n = []
decimal_in (suc k) n = cond (ltb n 10) ((48 + n) ∷ []) (decimal_in k (n / 10) ++ (48 + n % 10) ∷ [])

-- every number of 64 bits has at most twenty digits
unfoldable pub decimal : ℕ → List ℕ
decimal n = decimal_in 20 n

-- a word, and a number behind it
abbrev pub named : List ℕ → ℕ → List ℕ
named word n = word ++ decimal n

-- bytes, each behind a space
unfoldable pub spaced : List ℕ → List ℕ
spaced [] = []
spaced (b ∷ bytes) = named space b ++ spaced bytes
