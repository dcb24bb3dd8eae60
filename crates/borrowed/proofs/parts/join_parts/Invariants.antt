-- `join_parts` meets its contract: after each turn some parts are joined (`Joined`), and the next one fits.
-- Assumes nothing.
use Prim.Native.Nat.{◌-◌}
use Rattle.borrowed.proofs.Joining.{Joined}
use Rattle.borrowed.proofs.parts.join_parts.Given as goal

abbrev pub invariant-loop-i : goal.invariant-loop-i
invariant-loop-i l = Joined l.area l.at l.end l.initial.join l.join l.i l.to

abbrev pub decreases-loop-i : goal.decreases-loop-i
decreases-loop-i l = l.end - l.i
