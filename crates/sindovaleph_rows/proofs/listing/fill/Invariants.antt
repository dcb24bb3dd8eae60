-- `fill` meets its contract: what is still to list gives, from where the loop stands, the same end (`Going`).
-- Assumes nothing.
use Rattle.sindovaleph_rows.proofs.Filling.{Going}
use Rattle.sindovaleph_rows.proofs.listing.fill.Given as goal

abbrev pub invariant-loop-k : goal.invariant-loop-k
invariant-loop-k g l = Going (g.R.Row.columns l.row) l.width l.area l.place l.initial.rows l.rows l.at l.k
