-- `measure` goes over the rows of a value: those from where the loop stands give, from the pass that it has, the same end.
-- Assumes nothing.
use mathlib.Core.Path.{◌≡◌}
use Prim.Native.Nat.{◌-◌, ◌≤◌}
use mathlib.Core.List.{foldl}
use lib.ListN.{length, drop}
use Rattle.rfc.specs.Moves.{back_rows}
use Rattle.laying.specs.Passes.{gauged}
use Rattle.moves.proofs.RoutesRows.measure.Given as goal

abbrev pub invariant-loop-row : goal.invariant-loop-row
invariant-loop-row l = (l.at ≤ length l.self.value.now)
    × (foldl gauged l.pass (back_rows (drop l.at l.self.value.now)) ≡ foldl gauged l.initial.pass (back_rows l.self.value.now))

abbrev pub decreases-loop-row : goal.decreases-loop-row
decreases-loop-row l = length l.self.value.now - l.at
