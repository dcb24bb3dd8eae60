-- `moved` meets its contract: a pair is two addresses.
-- Assumes nothing.
use Rattle.moves.proofs.Rows.{pair_read}
use Rattle.moves.proofs.moved.Goals as goal

pub returns : goal.returns
returns c =
    pair_read c.args.pair.now c.requires c.u32_at-destination.result c.u32_at.result c.width_for.result
    c.u32_at-destination.ensures c.u32_at.ensures c.width_for.ensures
