-- Between the functions of the crate: codes that were seen are marked, and the one at an index is kept.
-- Assumes nothing.
use Rattle.std.specs.Prelude.{ℕ, ◌+◌, ◌≤◌, ◌≡◌, cond, List, [], ◌∷◌, eqb, length, drop, get_or}
use Rattle.facts.specs.Over.{over}
use Rattle.rfc.specs.Numbers.{most_bytes}
use Rattle.rfc.specs.Portions.{Portion, whole, portions}
use Rattle.aggregate.specs.declared.seen.Seen.{Seen}

-- the marks, a byte for each code, and what was seen
abbrev pub Marks : Type 0
Marks = List ℕ × Seen

-- a code without a mark: it is marked, counted, and kept where as many as the index came before it
unfoldable pub marked : ℕ → Marks → ℕ → Marks
marked index s code =
    cond (eqb (get_or s.0 code 0) 0)
    (over s.0 code (1 ∷ []), record { codes = s.1.codes + 1; code = cond (eqb s.1.codes index) code s.1.code })
    s

-- part after part
unfoldable pub sees : ℕ → Marks → List Portion → Marks
sees index s [] = s
sees index s (p ∷ ps) = sees index (marked index s p.code) ps

-- the field is whole, there is a mark for each byte, and no more codes before than a message has bytes
pub record Sees (bytes : List ℕ) (start : ℕ) (marks : List ℕ) (before : Seen) : Type 0 where
  pub parts : List Portion
  pub uncut : portions start (drop start bytes) ≡ whole parts
  pub each : length marks ≡ 256
  pub few : before.codes + length bytes ≤ most_bytes + most_bytes
