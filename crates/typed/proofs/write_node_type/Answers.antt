-- `write_node_type` meets its contract: the byte is the digit of the node type's number.
-- Assumes nothing.
use mathlib.Core.Path.{refl}
use Rattle.rfc.proofs.Values.{node_type}
use Rattle.rfc.proofs.Typed.{digits_byte}
use Rattle.typed.proofs.Answers.{scalar_as, holds_number}
use borrow.Author.Rules.{rules}
use Rattle.typed.proofs.write_node_type.Goals as goal

pub write_as-requires : goal.write_as-requires
write_as-requires c = scalar_as node_type refl

pub returns : goal.returns
returns c = search (rules, holds_number node_type, digits_byte, ← c.from.ensures)
