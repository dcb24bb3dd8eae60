-- `put` goes over the pairs of a value: the bytes of those that are left give, from the state that the loop has, the same end.
-- Assumes nothing.
use mathlib.Core.Path.{◌≡◌}
use Prim.Native.Nat.{◌%◌}
use mathlib.Core.List.{foldl}
use lib.ListN.{length}
use Rattle.rfc.specs.Strung.{all_bytes}
use Rattle.rfc.specs.Moves.{out_rows}
use Rattle.laying.specs.Passes.{State, put}
use Rattle.moves.proofs.PairsRows.put.Given as goal

abbrev pub invariant-loop-pair : goal.invariant-loop-pair
invariant-loop-pair l = (l.pair-iterator.size ≡ 8)
    × (length l.pair-iterator.rest.now % 8 ≡ 0)
    × (◌≡◌ {A = State} (foldl put (l.pass, l.room) (all_bytes (out_rows l.pair-iterator.rest.now))) (foldl put (l.initial.pass, l.initial.room) (all_bytes (out_rows l.self.value.now))))
    × (length l.room ≡ length l.initial.room)
