-- `write_u16` meets its contract: the bytes are the digits of the number.
-- Assumes nothing.
use Rattle.rfc.proofs.Values.{u16}
use Rattle.typed.proofs.Answers.{digits_as, holds_number}
use borrow.Author.Rules.{rules}
use Rattle.typed.proofs.write_u16.Goals as goal

pub write_as-requires : goal.write_as-requires
write_as-requires c = search (rules, digits_as u16)

pub returns : goal.returns
returns c = search (rules, holds_number u16)
