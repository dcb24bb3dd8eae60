-- `write_routes` meets its contract: both passes over the rows of the table.
-- Assumes nothing.
use Rattle.routes.proofs.Rows.{wrote}
use Rattle.routes.proofs.write_routes.Goals as goal

pub returns : goal.returns
returns c = wrote c.args.routes.now c.args.room.now c.args.place c.begin.result (c.lay.result, c.lay.new.room) c.begin.ensures c.lay.ensures
