-- Which numbers of a byte document 01 gives no refusal.
-- Assumes nothing.
use Rattle.std.specs.Prelude.{ℕ, Bool, ltb, eqb, ◌&&◌, ◌||◌}

-- 0, and 20 to 255; and 5 alone, since a length comes with it
abbrev pub is_other : ℕ → Bool
is_other n = ltb n 256 && (eqb n 0 || eqb n 5 || ltb 19 n)
