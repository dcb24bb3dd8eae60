-- Strict reading is plain reading with more refused, by the laws of `rfc`; a number of seconds and its bytes give each other back.
-- Assumes nothing.
use mathlib.Core.Path.{◌≡◌, sym, ap, ◌∙◌}
use Prim.Native.Nat.{ℕ, ◌^◌, ◌<◌}
use mathlib.Core.List.{List}
use lib.ListN.{length, take}
use lib.Seq.{take_all}
use native.Mathlib.Omega.{arith}
use lib.IntN.{ℤ}
use Rattle.facts.specs.BigEndian.{number, digits, signed, unsigned}
use Rattle.facts.proofs.BigEndian.{number_below, writes_back}
use Rattle.facts.proofs.Signs.{unsigned_back}
use Rattle.rfc.specs.Numbers.{given}
use Rattle.rfc.specs.Values.{integer, Value, Mode, read}
use Rattle.rfc.proofs.Codes.{seconds_kind}
use Rattle.rfc.proofs.Bytes.{byte_below}
use Rattle.rfc.proofs.Values.{i32, scalar_value}
use Rattle.rfc.proofs.Readings.{strict_plain, read_right}
use Rattle.rfc.proofs.Readback.{seconds_back}
use Rattle.promises.specs.Reading.{StrictReadsAlike, SecondsReadBack, SecondsWriteBack}

pub strict_reads_alike : StrictReadsAlike
strict_reads_alike code v value e = strict_plain code v value e

pub seconds_read_back : SecondsReadBack
seconds_read_back mode z h = seconds_back mode z h

-- what the code 2 reads as is the number of its four bytes
is_number : (mode : Mode) (v : List ℕ) (z : ℤ) → length v ≡ 4 → read mode 2 v ≡ given (record { kind = 9; content = integer z })
    → signed (number v) ≡ z
is_number mode v z long e =
    let held : integer (signed (number (take 4 v))) ≡ integer z =
    ap (λ (x : Value). x.content) (sym (scalar_value v i32) ∙ rw seconds_kind at (read_right mode 2 v _ e).1) in
    let same : signed (number (take 4 v)) ≡ z = cc in
    ap (λ (l : List ℕ). signed (number l)) (sym (take_all 4 v (omega arith))) ∙ same

pub seconds_write_back : SecondsWriteBack
seconds_write_back mode v z b long e =
    let bytes = byte_below v b in
    let n : ℕ = number v in
    let small : n < 2 ^ 32 = omega (arith, number_below v bytes, ap (λ (k : ℕ). 256 ^ k) long) in
    ap (λ (x : ℤ). digits 4 (unsigned x)) (sym (is_number mode v z long e))
    ∙ ap (digits 4) (unsigned_back n small)
    ∙ ap (λ (k : ℕ). digits k n) (sym long)
    ∙ writes_back 0 v bytes
