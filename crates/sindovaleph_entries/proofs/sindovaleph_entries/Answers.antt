-- `sindovaleph_entries` meets its contract: what is refused fills no row, and else all fields are filled in.
-- Assumes nothing.
use mathlib.Core.Path.{sym}
use Rattle.sindovaleph_entries.proofs.Listing.{lists_refused, lists_given}
use Rattle.sindovaleph_entries.proofs.sindovaleph_entries.Goals as goal

pub fill_all-requires : goal.fill_all-requires
fill_all-requires c = sym c.in-Ok.ensures

pub returns-in-Ok : goal.returns-in-Ok
returns-in-Ok c = lists_given _ _ (sym c.in-Ok.ensures) c.fill_all.ensures

pub returns-in-Err : goal.returns-in-Err
returns-in-Err c = lists_refused _ _ _ c.in-Err.ensures c.number.ensures
