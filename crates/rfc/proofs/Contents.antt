-- The laws of `specs/Typed.antt`, of what a value holds: its bytes give its numbers back, and which values have no bytes.
-- Assumes nothing.
use mathlib.Core.Path.{◌≡◌, refl, sym, ap, ◌∙◌, subst}
use Prim.Native.Nat.{ℕ, ◌%◌, ◌^◌, ◌<◌}
use native.Mathlib.Omega.{arith}
use native.Mathlib.Nat.{mul_comm, mul-suc, mul-mod_left}
use mathlib.Core.List.{List, [], ◌∷◌, map, flatten}
use borrow.Author.Tests.{ltb-true}
use lib.Dec.{lit<, ltb}
use lib.IntN.{ℤ, pos, negsuc}
use lib.ListN.{length}
use mir.Syntax.{w32}
use mir.Val.{SFits}
use Rattle.facts.specs.BigEndian.{number, digits, signed, unsigned}
use Rattle.facts.specs.Ranges.{lookup, within}
use Rattle.facts.proofs.BigEndian.{length_digits, number_digits}
use Rattle.facts.proofs.Pieces.{pieces_none, pieces_front}
use Rattle.facts.proofs.Signs.{signed_back}
use Rattle.facts.proofs.Table.{each}
use Rattle.rfc.specs.Kinds.{size_of}
use Rattle.rfc.specs.Values.{Content, raw, natural, integer, truth, numbers, nothing, numbers_of, width_of}
use Rattle.rfc.specs.Typed.{digits_of, bytes_in, Below, Seconds, Proper, bytes, addresses, pairs, u16s, text, codes, flag, Empty, no_bytes, no_numbers}
use Rattle.rfc.specs.Typed.{address, byte, yes_no, u16, u32, i32, node_type, message_type, three_bytes}
use Rattle.rfc.proofs.Codes.{size_some}
use Rattle.rfc.proofs.Typed.{length_digits_of}

-- numbers of so many bytes each: their bytes are whole numbers, and give them back
pub digits_whole : (width : ℕ) (l : List ℕ) → length (digits_of width l) % width ≡ 0
digits_whole width l =
    ap (λ (n : ℕ). n % width) (length_digits_of width l ∙ mul_comm width (length l)) ∙ mul-mod_left (length l) width

pub numbers_back : (width : ℕ) → 0 < width → (l : List ℕ) → Below (256 ^ width) l → numbers_of width (digits_of width l) ≡ l
unfolding numbers_of digits_of flatten
numbers_back width some [] b = ap (map number) (pieces_none width)
numbers_back width some (n ∷ l) b =
    ap (map number) (pieces_front width some (digits width n) (digits_of width l) (length_digits width n))
    ∙ (λ i. number_digits width n b.0 i ∷ numbers_back width some l b.1 i)

-- a number of seconds has 32 bits
fits : (z : ℤ) → Seconds z → SFits w32 z
fits (pos n) h = record { sfits = h }
fits (negsuc n) h = record { sfits = h }

pub seconds_below : (z : ℤ) → Seconds z → unsigned z < 256 ^ 4
seconds_below (pos n) h = omega arith
seconds_below (negsuc n) h = omega arith

pub seconds_signed : (z : ℤ) → Seconds z → signed (unsigned z) ≡ z
seconds_signed z h = signed_back z (fits z h)

-- each number of a list has some bytes
width_some : (kind : ℕ) → kind < 15 → 0 < width_of kind
unfolding width_of lookup within
width_some kind h = ltb-true 0 (width_of kind) (each (ltb 0) width_of 15 kind refl h)

-- no flag is empty
pub empty_kind : {kind : ℕ} {content : Content} → Proper kind content → Empty content → kind < 15
empty_kind (bytes v) no_bytes = lit< tt
empty_kind (text v) no_bytes = lit< tt
empty_kind (addresses l b) no_numbers = lit< tt
empty_kind (pairs l b) no_numbers = lit< tt
empty_kind (u16s l b) no_numbers = lit< tt
empty_kind (codes l b) no_numbers = lit< tt
empty_kind (address n _) e = elim e [ ]
empty_kind (byte n _) e = elim e [ ]
empty_kind (yes_no b) e = elim e [ ]
empty_kind (u16 n _) e = elim e [ ]
empty_kind (u32 n _) e = elim e [ ]
empty_kind (i32 z _) e = elim e [ ]
empty_kind (node_type n _) e = elim e [ ]
empty_kind (message_type n _) e = elim e [ ]
empty_kind (three_bytes a b c) e = elim e [ ]
empty_kind flag e = elim e [ ]

-- an empty value has no bytes, and no other value but a flag has none
pub empty_bytes : (kind : ℕ) (content : Content) → Empty content → bytes_in kind content ≡ []
unfolding digits_of flatten
empty_bytes kind content no_bytes = refl
empty_bytes kind content no_numbers = refl

pub bytes_empty : (kind : ℕ) (content : Content) → Proper kind content → kind < 15 → bytes_in kind content ≡ [] → Empty content
bytes_empty kind (raw v) p h e = subst (λ (l : List ℕ). Empty (raw l)) (sym e) no_bytes
bytes_empty kind (natural n) p h e = absurd (omega (arith, ap length e, length_digits (size_of kind) n, size_some kind h))
bytes_empty kind (integer z) p h e = absurd (omega (arith, ap length e, length_digits (size_of kind) (unsigned z), size_some kind h))
bytes_empty kind (truth b) p h e = absurd (omega (arith, ap length e))
bytes_empty kind (numbers []) p h e = no_numbers
bytes_empty kind (numbers (n ∷ l)) p h e =
    let w : ℕ = width_of kind in
    absurd (omega (arith, ap length e, length_digits_of w (n ∷ l), mul-suc w (length l), width_some kind h))
bytes_empty kind nothing flag h e = absurd (omega arith)
