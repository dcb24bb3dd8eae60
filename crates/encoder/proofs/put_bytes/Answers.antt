-- `put_bytes` meets its contract: what is copied into just its part of a room is put over what stood there.
-- Assumes nothing.
use mathlib.Core.Path.{ap, ◌∙◌}
use native.Mathlib.Omega.{arith}
use Rattle.facts.specs.Over.{over}
use Rattle.facts.proofs.Over.{over_part}
use Rattle.encoder.proofs.put_bytes.Goals as goal

pub returns : goal.returns
returns c =
    let a = c.args in
    let copied = c.copy_from_slice in
    over_part a.to.now a.at _ copied.new.self (omega (arith, copied.ensures)) ∙ ap (over a.to.now a.at) copied.ensures.after
