-- Whether a text has a byte that is not ASCII, and where its first block stands that has one.
-- Assumes nothing.
use Rattle.std.specs.Prelude.{◌≡◌, Bool, true, false, List, ℕ, ◌%◌, nat_lt, take, drop}
use Rattle.std.specs.List.{list_any}

-- one of the bytes is above 0x7f
abbrev pub any_high : List ℕ → Bool
any_high bytes = list_any (λ b. nat_lt 0x7f b) bytes

-- what is left behind whole blocks of 256 bytes that are all ASCII
pub record Passed (text rest : List ℕ) : Type 0 where
  pub at : ℕ
  pub behind : rest ≡ drop at text
  pub blocks : at % 256 ≡ 0
  pub before : any_high (take at text) ≡ false

-- and it begins with a block that has another byte (the last block may be shorter)
pub record Stopped (text rest : List ℕ) : Type 0 where
  pub passed : Passed text rest
  pub other : any_high (take 256 rest) ≡ true
