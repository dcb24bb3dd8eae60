-- `put` meets its contract: the four numbers of the option, and four more for what it reads as.
-- Assumes nothing.
use Rattle.sindovaleph_rows.proofs.Rows.{row_8}
use Rattle.sindovaleph_rows.proofs.listing.AsReadRow.put.Goals as goal

pub returns : goal.returns
returns c = row_8 c.requires.inside _ _ c.read_unjoined.ensures c.from-value.ensures _ c.requires.wide c.put_found.ensures
