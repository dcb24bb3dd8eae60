-- Between the functions of the crate: where a list of numbers is cut, over the definitions of `Rattle.rfc.specs.Typed`.
-- Assumes nothing.
use Rattle.std.specs.Prelude.{ℕ, ◌+◌, ◌*◌, ◌≤◌, ◌<◌, ◌≡◌, List, length}
use Rattle.rfc.specs.Numbers.{most_part}
use Rattle.rfc.specs.Writing.{encode}
use Rattle.rfc.specs.Typed.{part_size}

-- a kind of list that is cut at so many numbers, each of so many bytes; it is no text and no flag, and if it is one of pairs its numbers
-- are addresses
pub record CutAt (kind width most : ℕ) : Type 0 where
  pub part_is : part_size kind ≡ width * most
  pub some : 0 < width * most
  pub fits_part : width * most ≤ most_part
  pub other : (kind ≡ 10 → ⊥) × (kind ≡ 15 → ⊥)
  pub paired : kind ≡ 3 → width ≡ 4

-- the bytes of numbers, so many each, whose parts, so many numbers each, fit in a room at a place
pub record Ready (width most code place : ℕ) (bytes room : List ℕ) : Type 0 where
  pub some : 0 < width * most
  pub fits_part : width * most ≤ most_part
  pub fits : place + length (encode (width * most) code bytes) ≤ length room
