-- `put_entries` meets its contract: the rest of the text is what the calls that are left give.
-- Assumes nothing.
use mathlib.Core.Path.{◌≡◌}
use Prim.Native.Nat.{◌-◌}
use lib.ListN.{length}
use Rattle.lines.proofs.Resting.{Resting}
use Rattle.joined_lines.specs.Joined.{entries_in}
use Rattle.joined_lines.proofs.put_entries.Given as goal

abbrev pub invariant-loop-index : goal.invariant-loop-index
invariant-loop-index l =
    let room = length l.initial.join in
    Resting l.initial.pen l.pen (entries_in (length l.message) room l.message 0)
    (entries_in (length l.message - l.index) room l.message l.index)
    × (length l.join ≡ room)
