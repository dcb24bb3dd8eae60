-- `put` goes over a table: what is left of it gives, from the state at the loop's head, what the whole table gives from the start.
-- Assumes nothing.
use mathlib.Core.Path.{◌≡◌}
use mathlib.Core.List.{foldl}
use lib.ListN.{length, drop}
use Rattle.laying.specs.Passes.{State}
use Rattle.routes.proofs.Rows.{one_put}
use Rattle.routes.proofs.TableRows.put.Given as goal

abbrev pub invariant-loop-route : goal.invariant-loop-route
invariant-loop-route l =
    (◌≡◌ {A = State} (foldl one_put (l.pass, l.room) (drop l.route-index l.route-items)) (foldl one_put (l.initial.pass, l.initial.room) l.route-items))
    × (length l.room ≡ length l.initial.room)
