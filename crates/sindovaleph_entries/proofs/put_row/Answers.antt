-- `put_row` meets its contract: stores one behind the other are one write.
-- Assumes nothing.
use Rattle.facts.proofs.Cells.{stores_over}
use Rattle.sindovaleph_entries.specs.Filling.{first_row}
use Rattle.sindovaleph_entries.proofs.put_row.Goals as goal

pub returns : goal.returns
returns c =
    let p = c.args.part in stores_over c.args.rows.now c.args.row (first_row p.code p.len p.place) c.requires
