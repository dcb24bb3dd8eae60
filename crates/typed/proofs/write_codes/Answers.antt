-- `write_codes` meets its contract: the codes are their own bytes.
-- Assumes nothing.
use mathlib.Core.Path.{sym}
use native.Mathlib.Omega.{arith}
use Rattle.rfc.specs.Values.{numbers}
use Rattle.rfc.proofs.Typed.{codes_bytes}
use Rattle.typed.proofs.Answers.{holds, codes_as}
use Rattle.typed.proofs.write_codes.Goals as goal

pub write_as-requires : goal.write_as-requires
write_as-requires c = codes_as

pub returns : goal.returns
returns c =
    let known = c.shared_slice_known-1 in
    holds 11 _ _ _ _ (numbers _) (sym (codes_bytes _ (λ i. omega (arith, known.given i)))) c.write_as.ensures
