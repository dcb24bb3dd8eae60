-- `number` meets its contract at each of the three widths.
-- Assumes nothing.
use mathlib.Core.Path.{◌≡◌, ◌∙◌}
use native.Mathlib.Omega.{arith}
use Rattle.facts.proofs.Cells.{byte_at}
use Rattle.header.proofs.Readers.{number_is}
use Rattle.header.proofs.Message.number.Goals as goal

pub returns-then-size-eq1 : goal.returns-then-size-eq1
returns-then-size-eq1 c =
    let one : c.args.size ≡ 1 = omega arith in
    rw one (byte_at c.args.self.bytes.now c.args.start (omega arith))

pub returns-then-size-eq2 : goal.returns-then-size-eq2
returns-then-size-eq2 c =
    let two : c.args.size ≡ 2 = omega arith in
    rw two (c.u16_at.ensures ∙ number_is c.args.self.bytes.now (omega arith) c.args.start 2 (omega arith))

pub returns : goal.returns
returns c =
    let four : c.args.size ≡ 4 = omega arith in
    rw four (c.u32_at.ensures ∙ number_is c.args.self.bytes.now (omega arith) c.args.start 4 (omega arith))
