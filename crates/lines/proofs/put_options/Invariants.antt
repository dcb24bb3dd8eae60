-- `put_options` meets its contract: the rest of the text is what the calls that are left give from where the loop stands.
-- Assumes nothing.
use mathlib.Core.Path.{◌≡◌}
use Prim.Native.Nat.{◌-◌}
use lib.ListN.{length}
use Rattle.lines.specs.Listing.{lines_in}
use Rattle.lines.proofs.Resting.{Resting}
use Rattle.lines.proofs.put_options.Given as goal

abbrev pub invariant-loop : goal.invariant-loop
invariant-loop l =
    let room = length l.initial.join in
    Resting l.initial.pen l.pen (lines_in l.calls room l.area 0) (lines_in (l.calls - l.counter) room l.area l.place)
    × (length l.join ≡ room)
