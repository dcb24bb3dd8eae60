-- `overload_byte` meets its contract: the byte that it reads is there, if the parts are one of one byte.
-- Assumes nothing.
use native.Mathlib.Omega.{arith}
use Rattle.aggregate.proofs.Overloaded.{one_byte}
use Rattle.aggregate.proofs.fields.overload_byte.Goals as goal

pub overflow_sub-counted : goal.overflow_sub-counted
overflow_sub-counted c = (one_byte c.args.message.now c.requires (omega arith) (omega arith)).some

pub bounds-message-counted : goal.bounds-message-counted
bounds-message-counted c =
    let one = one_byte c.args.message.now c.requires (omega arith) (omega arith) in omega (arith, one.some, one.inside)
