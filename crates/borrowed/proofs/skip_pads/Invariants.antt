-- `skip_pads` meets its contract: a Pad that is passed does not change what the walk finds.
-- Assumes nothing.
use mathlib.Core.Path.{◌≡◌}
use Prim.Native.Nat.{◌-◌, ◌≤◌}
use lib.ListN.{length, drop}
use Rattle.rfc.specs.Walk.{walk}
use Rattle.borrowed.proofs.skip_pads.Given as goal

abbrev pub invariant-loop-at : goal.invariant-loop-at
invariant-loop-at l = (l.at ≤ length l.area) × (walk l.place (drop l.place l.area) ≡ walk l.at (drop l.at l.area))

abbrev pub decreases-loop-at : goal.decreases-loop-at
decreases-loop-at l = length l.area - l.at
