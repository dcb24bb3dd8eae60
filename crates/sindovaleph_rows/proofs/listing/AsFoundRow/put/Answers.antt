-- `put` meets its contract: the four numbers of the option.
-- Assumes nothing.
use Rattle.sindovaleph_rows.proofs.Rows.{row_4}
use Rattle.sindovaleph_rows.proofs.listing.AsFoundRow.put.Goals as goal

pub returns : goal.returns
returns c = row_4 c.requires.inside _ c.requires.wide c.put_found.ensures
