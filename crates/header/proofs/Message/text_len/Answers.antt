-- `text_len` meets its contract: the bytes that are looked through are the field's, and so few that their number fits.
-- Assumes nothing.
use mathlib.Core.Path.{◌≡◌}
use Prim.Native.Nat.{◌+◌, ◌-◌}
use native.Mathlib.Omega.{arith}
use Rattle.rfc.specs.Header.{part}
use Rattle.rfc.proofs.Header.{text_within}
use Rattle.header.proofs.Message.text_len.Goals as goal

pub overflow_cast-result : goal.overflow_cast-result
overflow_cast-result c =
    let a = c.args in
    let n : a.start + a.size - a.start ≡ a.size = omega arith in
    let counted = rw n at c.until_zero.ensures in
    omega (arith, counted, text_within (part a.start a.size) a.self.bytes.now)
