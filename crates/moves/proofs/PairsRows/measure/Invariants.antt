-- `measure` goes over the pairs of a value: those that are left give, from the pass that the loop has, the same end.
-- Assumes nothing.
use mathlib.Core.Path.{◌≡◌}
use Prim.Native.Nat.{◌%◌}
use mathlib.Core.List.{foldl}
use lib.ListN.{length}
use Rattle.rfc.specs.Moves.{out_rows}
use Rattle.laying.specs.Passes.{gauged}
use Rattle.moves.proofs.PairsRows.measure.Given as goal

abbrev pub invariant-loop-pair : goal.invariant-loop-pair
invariant-loop-pair l = (l.pair-iterator.size ≡ 8)
    × (length l.pair-iterator.rest.now % 8 ≡ 0)
    × (foldl gauged l.pass (out_rows l.pair-iterator.rest.now) ≡ foldl gauged l.initial.pass (out_rows l.self.value.now))
