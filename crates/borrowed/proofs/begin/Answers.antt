-- `begin` meets its contract: two checks, then how a call begins behind the Pads.
-- Assumes nothing.
use mathlib.Core.Path.{sym, ap, ◌∙◌}
use native.Mathlib.Omega.{arith}
use Rattle.rfc.specs.Numbers.{given}
use Rattle.rfc.proofs.Walk.{look_walks}
use Rattle.borrowed.proofs.begin.Goals as goal

pub returns : goal.returns
returns c =
    let skipped = c.skip_pads-at.ensures in
    let same = look_walks _ c.args.place (omega arith) (omega arith) ∙ ap given skipped.same ∙ sym (look_walks _ _ (omega arith) skipped.within) in
    rw same c.read.ensures
