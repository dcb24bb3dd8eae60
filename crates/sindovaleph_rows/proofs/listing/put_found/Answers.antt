-- `put_found` meets its contract: stores one behind the other are one write.
-- Assumes nothing.
use Rattle.facts.proofs.Cells.{stores_over}
use Rattle.sindovaleph_rows.specs.Listing.{front_of}
use Rattle.sindovaleph_rows.proofs.listing.put_found.Goals as goal

pub returns : goal.returns
returns c = stores_over c.args.row.now 0 (front_of c.args.found) c.requires
