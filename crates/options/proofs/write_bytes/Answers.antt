-- `write_bytes` meets its contract: a law of `write_bytes` for each check, in their order; behind them only the room's end is left.
-- Assumes nothing.
use mathlib.Core.Path.{◌≡◌, refl}
use Prim.Native.Nat.{ℕ, ◌≤◌}
use mathlib.Core.List.{List}
use native.Mathlib.Omega.{arith}
use lib.ListN.{length}
use Rattle.std.proofs.Common.{Result, inl, inr}
use Rattle.rfc.specs.Numbers.{most_bytes, most_value, most_part, pad_code, end_code}
use Rattle.rfc.specs.Writing.{encode, write_slice, write_bytes}
use Rattle.rfc.proofs.Writing.{bytes_2, bytes_4, bytes_pad, bytes_end, bytes_7, bytes_slice}
use Rattle.refusal.specs.declared.Refusal.{Refusal}
use Rattle.encoder.specs.Written.{Wrote}
use Rattle.encoder.proofs.Answers.{refuses, same_wrote}
use Rattle.options.proofs.write_bytes.Goals as goal

-- behind the other checks it is the write of its parts as they stand
passed : (v : List ℕ) {code place : ℕ} {room room' : List ℕ} {r : Result ℕ Refusal} → length room ≤ most_bytes → place ≤ length room
    → (code ≡ pad_code → ⊥) → (code ≡ end_code → ⊥) → length v ≤ most_value
    → Wrote (write_slice (encode most_part code v) room place) room room' place r → Wrote (write_bytes code v room place) room room' place r
passed v short within pad end few w = same_wrote (bytes_slice _ _ _ _ short within pad end few) w

pub returns-then-room-gt-MOST_BYTES : goal.returns-then-room-gt-MOST_BYTES
returns-then-room-gt-MOST_BYTES c = refuses _ _ _ _ _ refl (bytes_2 _ _ _ _ c.if-room-gt-MOST_BYTES.true)

pub returns-then-place-room : goal.returns-then-place-room
returns-then-place-room c = refuses _ _ _ _ _ refl (bytes_4 _ _ _ _ c.if-room-gt-MOST_BYTES.false c.if-place-room.true)

pub returns-then-code-eq0 : goal.returns-then-code-eq0
returns-then-code-eq0 c =
    elim c.then-code-eq0.either [
      | inl pad ↦ refuses _ _ _ _ _ refl (bytes_pad _ _ _ _ c.if-room-gt-MOST_BYTES.false c.if-place-room.false pad)
      | inr end ↦ refuses _ _ _ _ _ refl (bytes_end _ _ _ _ c.if-room-gt-MOST_BYTES.false c.if-place-room.false end.0 end.1)
    ]

pub returns-then-value-gt-MOST_VALUE : goal.returns-then-value-gt-MOST_VALUE
returns-then-value-gt-MOST_VALUE c =
    refuses _ _ _ _ _ refl
    (bytes_7 _ _ _ _ c.if-room-gt-MOST_BYTES.false c.if-place-room.false (λ e. omega arith) (λ e. omega arith)
    c.if-value-gt-MOST_VALUE.true)

pub returns-then-value-gt-MOST_PART : goal.returns-then-value-gt-MOST_PART
returns-then-value-gt-MOST_PART c =
    passed _ c.if-room-gt-MOST_BYTES.false c.if-place-room.false (λ e. omega arith) (λ e. omega arith) (omega arith)
    c.write_parts.ensures

pub returns : goal.returns
returns c =
    passed _ c.if-room-gt-MOST_BYTES.false c.if-place-room.false (λ e. omega arith) (λ e. omega arith) (omega arith)
    c.write_part.ensures
