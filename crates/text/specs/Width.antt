-- What the code finds at the front of a text: what the first byte asks for, and how wide the first character is.
-- Assumes nothing.
use Rattle.std.specs.Prelude.{◌≡◌, false, List, ℕ, ◌+◌, ◌*◌, ◌≤◌, ◌<◌, length, drop, get_or, Option, Some, None}
use Rattle.std.proofs.Math.Option.{some}
use Rattle.rfc.specs.Text.{Range, lead, utf8}

-- a byte stands at the front, and these ranges have to follow it where a character begins with it
pub record Asks (text : List ℕ) (ranges : List Range) : Type 0 where
  pub there : 0 < length text
  pub leads : lead (get_or text 0 0) ≡ some ranges

-- two bytes begin a character of four: the second is a UTF8-tail, and as one number they lie between %xF0 %x90 and %xF4 %x8F
abbrev pub Four : ℕ → ℕ → Type 0
Four first second = (0x80 ≤ second) × (second ≤ 0xbf) × (0xf090 ≤ first * 256 + second) × (first * 256 + second ≤ 0xf48f)

-- so many bytes are a character
pub record Character (text : List ℕ) (width : ℕ) : Type 0 where
  pub some : 0 < width
  pub inside : width ≤ length text
  pub passed : utf8 text ≡ utf8 (drop width text)

-- how many bytes the first character has, and nothing where no character stands at the front
abbrev pub Width : List ℕ → Option ℕ → Type 0
Width text None = utf8 text ≡ false
Width text (Some width) = Character text width
