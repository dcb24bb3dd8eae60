-- `write_byte` meets its contract: the byte is the digit of the number.
-- Assumes nothing.
use mathlib.Core.Path.{refl}
use Rattle.rfc.proofs.Values.{byte}
use Rattle.rfc.proofs.Typed.{digits_byte}
use Rattle.typed.proofs.Answers.{scalar_as, holds_number}
use borrow.Author.Rules.{rules}
use Rattle.typed.proofs.write_byte.Goals as goal

pub write_as-requires : goal.write_as-requires
write_as-requires c = scalar_as byte refl

pub returns : goal.returns
returns c = search (rules, holds_number byte, digits_byte)
