-- `write_i32` meets its contract: the bytes are the digits of the bits that stand for the number.
-- Assumes nothing.
use mathlib.Core.Path.{ap, ◌∙◌}
use mir.Syntax.{w32}
use mir.Facts.{to_z-of_z}
use Rattle.facts.specs.BigEndian.{digits, unsigned}
use Rattle.rfc.specs.Values.{integer}
use Rattle.rfc.proofs.Values.{i32}
use Rattle.typed.proofs.Answers.{holds, digits_as, digits_in}
use borrow.Author.Rules.{rules}
use Rattle.typed.proofs.write_i32.Goals as goal

pub write_as-requires : goal.write_as-requires
write_as-requires c = search (rules, digits_as i32)

pub returns : goal.returns
returns c =
    let bits = ap unsigned (to_z-of_z {w = w32} c.ranges.number) in
    holds 9 _ _ _ _ (integer _) (digits_in i32 _ (c.i32_bytes.ensures ∙ ap (digits 4) bits)) c.write_as.ensures
