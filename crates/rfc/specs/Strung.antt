-- A value that is strung together from rows, each with checks of its own, and how it is written: the first bad row decides (document 02,
-- ticket 6).
-- Assumes nothing.
use Rattle.std.specs.Prelude.{ℕ, List, [], ◌∷◌, ◌++◌}
use Rattle.rfc.specs.Numbers.{Answer, given, Check, check, checked, too_much}
use Rattle.rfc.specs.Writing.{Write, encode}

-- what is made of one row: its checks, in their order, and its bytes
pub record RowMade : Type 0 where
  pub checks : List Check
  pub bytes : List ℕ

unfoldable pub all_checks : List RowMade → List Check
all_checks [] = []
all_checks (m ∷ ms) = m.checks ++ all_checks ms

unfoldable pub all_bytes : List RowMade → List ℕ
all_bytes [] = []
all_bytes (m ∷ ms) = m.bytes ++ all_bytes ms

-- the value that is made of rows
unfoldable pub strung : List RowMade → Answer (List ℕ)
strung ms = checked (all_checks ms) (given (all_bytes ms))

-- it is written in parts of so many bytes, behind some checks: these decide first, then the rows, then 7, and 8 as in every write
unfoldable pub write_strung : List Check → ℕ → ℕ → List RowMade → Write
write_strung before size code ms =
    record {
      checks = before ++ (all_checks ms ++ check (too_much (all_bytes ms)) 7 ∷ []);
      bytes = encode size code (all_bytes ms);
    }
