-- `measure` goes over a table: what is left of it gives, from the state at the loop's head, what the whole table gives from the start.
-- Assumes nothing.
use mathlib.Core.Path.{◌≡◌}
use mathlib.Core.List.{map, foldl}
use lib.ListN.{drop}
use Rattle.laying.specs.Passes.{gauged}
use Rattle.routes.specs.Rows.{made_of}
use Rattle.routes.proofs.TableRows.measure.Given as goal

abbrev pub invariant-loop-route : goal.invariant-loop-route
invariant-loop-route l =
    foldl gauged l.pass (map made_of (drop l.route-index l.route-items)) ≡ foldl gauged l.initial.pass (map made_of l.route-items)
