-- `size_in_parts` meets its contract: a division that is rounded up.
-- Assumes nothing.
use Rattle.std.proofs.Common.{◌≡◌, refl, ℕ, zero, suc, min, ◌+◌, ◌-◌, ◌*◌, ◌/◌, ◌%◌, ◌<◌, ap, ◌∙◌, arith}
use Rattle.std.proofs.lemmas.Nat.{div-mul-add}
use Rattle.parts.proofs.size_in_parts.Goals as goal

-- by the remainder, none or some
rounded_up : (n m r : ℕ) → 0 < m → r ≡ n % m → (n + (m - 1)) / m ≡ n / m + min 1 r
rounded_up n m zero some e =
    let up : n + (m - 1) ≡ n / m * m + (m - 1) = omega arith in
    ap (λ (k : ℕ). k / m) up ∙ div-mul-add (n / m) m (m - 1) (omega arith) ∙ omega arith
rounded_up n m (suc r) some e =
    let up : n + (m - 1) ≡ (n / m + 1) * m + r = omega arith in
    ap (λ (k : ℕ). k / m) up ∙ div-mul-add (n / m + 1) m r (omega arith) ∙ omega arith

pub returns : goal.returns
returns c = omega (arith, rounded_up c.args.len c.args.most _ (omega arith) refl)
