-- Lists of bytes (`Bytes` of `specs/Lists.antt`): what is taken out of one, or made of two, is one too.
-- Assumes nothing.
use Prim.Native.Nat.{ℕ, suc, zero, ◌/◌, ◌^◌, ◌<◌}
use native.Mathlib.Nat.{mod-lt}
use mathlib.Core.List.{List, [], ◌∷◌, ◌++◌}
use lib.ListN.{take, drop, get_or}
use lib.Dec.{lit<}
use Rattle.facts.specs.BigEndian.{digits}
use Rattle.rfc.specs.Header.{Part, bytes_of}
use Rattle.rfc.specs.Lists.{Bytes}

-- a byte at any place
pub byte_below : (v : List ℕ) → Bytes v → (i : ℕ) → get_or v i 0 < 256
byte_below [] b i = lit< tt
byte_below (x ∷ v) b zero = b.0
byte_below (x ∷ v) b (suc i) = byte_below v b.1 i

pub bytes_known : (v : List ℕ) → ((i : ℕ) → get_or v i 0 < 256) → Bytes v
bytes_known [] h = tt
bytes_known (x ∷ v) h = (h 0, bytes_known v (λ i. h (suc i)))

pub bytes_drop : (n : ℕ) (l : List ℕ) → Bytes l → Bytes (drop n l)
bytes_drop zero l h = h
bytes_drop (suc n) [] h = h
bytes_drop (suc n) (b ∷ l) h = bytes_drop n l h.1

pub bytes_take : (n : ℕ) (l : List ℕ) → Bytes l → Bytes (take n l)
bytes_take zero l h = tt
bytes_take (suc n) [] h = tt
bytes_take (suc n) (b ∷ l) h = (h.0, bytes_take n l h.1)

pub bytes_joined : (a b : List ℕ) → Bytes a → Bytes b → Bytes (a ++ b)
bytes_joined [] b h g = g
bytes_joined (x ∷ a) b h g = (h.0, bytes_joined a b h.1 g)

pub bytes_front : (a b : List ℕ) → Bytes (a ++ b) → Bytes a
bytes_front [] b h = tt
bytes_front (x ∷ a) b h = (h.0, bytes_front a b h.1)

pub bytes_digits : (width n : ℕ) → Bytes (digits width n)
bytes_digits zero n = tt
bytes_digits (suc width) n = (mod-lt (n / 256 ^ width) (lit< tt), bytes_digits width n)

pub bytes_part : (p : Part) (message : List ℕ) → Bytes message → Bytes (bytes_of p message)
bytes_part p message h = bytes_take p.len (drop p.start message) (bytes_drop p.start message h)
