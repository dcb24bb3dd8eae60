-- `skip_pads` meets its contract: a Pad that is passed does not change what stands first.
-- Assumes nothing.
use mathlib.Core.Path.{◌≡◌}
use Prim.Native.Nat.{◌-◌}
use lib.ListN.{length, drop}
use Rattle.rfc.specs.Portions.{next_portion}
use Rattle.portions.proofs.skip_pads.Given as goal

abbrev pub invariant-loop-to : goal.invariant-loop-to
invariant-loop-to l = next_portion l.at (drop l.at l.bytes) ≡ next_portion l.to (drop l.to l.bytes)

abbrev pub decreases-loop-to : goal.decreases-loop-to
decreases-loop-to l = length l.bytes - l.to
