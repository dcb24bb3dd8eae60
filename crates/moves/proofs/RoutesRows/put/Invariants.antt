-- `put` goes over the rows of a value, which all move back: the bytes of those from where the loop stands give, from the state that it has,
-- the same end.
-- Assumes nothing.
use mathlib.Core.Path.{◌≡◌}
use Prim.Native.Nat.{◌-◌, ◌≤◌}
use mathlib.Core.List.{foldl}
use lib.ListN.{length, drop}
use Rattle.rfc.specs.Strung.{all_checks, all_bytes}
use Rattle.rfc.specs.Moves.{back_rows}
use Rattle.rfc.proofs.Numbers.{Clear}
use Rattle.laying.specs.Passes.{State, put}
use Rattle.moves.proofs.RoutesRows.put.Given as goal

abbrev pub invariant-loop-row : goal.invariant-loop-row
invariant-loop-row l = (l.at ≤ length l.self.value.now)
    × Clear (all_checks (back_rows (drop l.at l.self.value.now)))
    × (◌≡◌ {A = State} (foldl put (l.pass, l.room) (all_bytes (back_rows (drop l.at l.self.value.now)))) (foldl put (l.initial.pass, l.initial.room) (all_bytes (back_rows l.self.value.now))))
    × (length l.room ≡ length l.initial.room)

abbrev pub decreases-loop-row : goal.decreases-loop-row
decreases-loop-row l = length l.self.value.now - l.at
