-- `write_three_bytes` meets its contract: the bytes are the value.
-- Assumes nothing.
use mathlib.Core.Path.{refl}
use Rattle.rfc.proofs.Values.{three_bytes}
use Rattle.typed.proofs.Answers.{holds, scalar_as}
use borrow.Author.Rules.{rules}
use Rattle.typed.proofs.write_three_bytes.Goals as goal

pub write_as-requires : goal.write_as-requires
write_as-requires c = scalar_as three_bytes refl

pub returns : goal.returns
returns c = search (rules, holds)
