-- A list cut into pieces.
-- Assumes nothing.
use Rattle.std.specs.Prelude.{ℕ, zero, suc, List, [], ◌∷◌, length, take, drop}

-- a list cut into pieces of so many, the last one shorter; no more than so many pieces
unfoldable pub pieces_in : ℕ → ℕ → List ℕ → List (List ℕ)
pieces_in zero size l = []
pieces_in (suc k) size [] = []
pieces_in (suc k) size (x ∷ l) = take size (x ∷ l) ∷ pieces_in k size (drop size (x ∷ l))

-- a list cut into pieces of so many, the last one shorter; an empty list has none
unfoldable pub pieces : ℕ → List ℕ → List (List ℕ)
pieces size l = pieces_in (length l) size l
