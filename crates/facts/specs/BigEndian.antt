-- A number and its bytes, the highest byte first (network byte order), at any width; and two's complement at 32 bits.
-- Assumes nothing.
use Rattle.std.specs.Prelude.{ℕ, zero, suc, ◌+◌, ◌-◌, ◌*◌, ◌/◌, ◌%◌, ◌^◌, List, [], ◌∷◌, Bool, true, false, cond, leb, ltb, length, take, drop, ℤ, pos, negsuc}

-- the number that some bytes are, behind what stands before them
abbrev pub number_from : ℕ → List ℕ → ℕ
number_from high [] = high
number_from high (x ∷ xs) = number_from (high * 256 + x) xs

-- the number that some bytes are
abbrev pub number : List ℕ → ℕ
number xs = number_from 0 xs

-- the number that so many bytes from a place on are, 0 where they are not all there
unfoldable pub number_at : ℕ → List ℕ → ℕ → ℕ
number_at width bytes at = cond (leb (at + width) (length bytes)) (number (take width (drop at bytes))) 0

-- a number as so many bytes
abbrev pub digits : ℕ → ℕ → List ℕ
digits zero n = []
digits (suc width) n = n / 256 ^ width % 256 ∷ digits width n

-- the first where the test holds, else the second
abbrev pub pick_int : Bool → ℤ → ℤ → ℤ
pick_int true a b = a
pick_int false a b = b

-- 32 bits as two's complement: from 2 ^ 31 on, the number less 2 ^ 32. `negsuc k` is -(k + 1)
abbrev pub signed : ℕ → ℤ
signed x = pick_int (ltb x (2 ^ 31)) (pos x) (negsuc (2 ^ 32 - suc x))

-- the 32 bits of a number from -(2 ^ 31) to 2 ^ 31 - 1: below 0, the number plus 2 ^ 32
abbrev pub unsigned : ℤ → ℕ
unsigned (pos n) = n
unsigned (negsuc n) = 2 ^ 32 - suc n
