-- `read` meets its contract: a law at a place for each return.
-- Assumes nothing.
use Prim.Native.Nat.{ℕ, ◌+◌, ◌≤◌}
use mathlib.Core.List.{List}
use mathlib.Core.Path.{◌≡◌, refl, sym, ap, ◌∙◌}
use native.Mathlib.Omega.{arith}
use lib.ListN.{length, take, drop, get_or, length-drop}
use lib.Seq.{length-take-le}
use Rattle.std.specs.Prelude.{Some, Ok}
use Rattle.rfc.specs.Numbers.{end_code}
use Rattle.rfc.specs.Portions.{next_portion}
use Rattle.rfc.proofs.Portions.{end_at, no_length_at, no_value_at, whole_at}
use Rattle.portions.specs.Told.{next_of, NoPad}
use Rattle.portions.specs.declared.Portion.{Portion}
use Rattle.portions.proofs.read.Goals as goal

abbrev numbered : ℕ → ℕ → ℕ → Portion
numbered code len place = record { code = code; len = len; place = place }

-- a part that is whole, by its numbers
told : (bytes : List ℕ) (at : ℕ) → NoPad bytes at → (get_or bytes at 0 ≡ end_code → ⊥) → {n to : ℕ} → get_or bytes (at + 1) 0 ≡ n → at + 2 + n ≡ to
    → to ≤ length bytes → Ok (Some (numbered (get_or bytes at 0) n to)) ≡ next_of (next_portion at (drop at bytes))
told bytes at pre e {n} {to} same far inside =
    let m : ℕ = get_or bytes (at + 1) 0 in
    let long : length (take m (drop (at + 2) bytes)) ≡ n =
    length-take-le m (drop (at + 2) bytes) (omega (arith, length-drop (at + 2) bytes)) ∙ same in
    let place : at + 2 + m ≡ to = omega arith in
    sym (ap next_of (whole_at bytes at pre.other e (omega arith)) ∙ (λ i. Ok (Some (numbered (get_or bytes at 0) (long i) (place i)))))

pub returns-then-code : goal.returns-then-code
returns-then-code c = sym (ap next_of (end_at _ _ c.requires.inside c.if-code.true))

pub returns-then-bytes-at-lt2 : goal.returns-then-bytes-at-lt2
returns-then-bytes-at-lt2 c =
    sym (ap next_of (no_length_at _ _ c.requires.other c.if-code.false c.requires.inside c.if-bytes-at-lt2.true))

pub returns-then-len-eq0 : goal.returns-then-len-eq0
returns-then-len-eq0 c =
    told _ c.args.at c.requires c.if-code.false c.if-len-eq0.true (omega arith) (omega arith)

pub returns-then-len-bytes : goal.returns-then-len-bytes
returns-then-len-bytes c =
    sym (ap next_of (no_value_at _ _ c.requires.other c.if-code.false (omega arith) c.if-len-bytes.true))

pub returns : goal.returns
returns c =
    told _ c.args.at c.requires c.if-code.false refl refl (omega arith)
