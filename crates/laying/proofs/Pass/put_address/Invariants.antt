-- `put_address` meets its contract: the bytes from where the loop stands give, from the state that it has, the same end.
-- Assumes nothing.
use mathlib.Core.Path.{◌≡◌}
use mathlib.Core.List.{foldl}
use lib.ListN.{length, drop, take}
use Rattle.facts.specs.BigEndian.{digits}
use Rattle.laying.specs.Passes.{State, put}
use Rattle.laying.proofs.Pass.put_address.Given as goal

abbrev pub invariant-loop-byte : goal.invariant-loop-byte
invariant-loop-byte l =
    (◌≡◌ {A = State} (foldl put (l.pass, l.room) (drop l.byte-index l.byte-items)) (foldl put (l.fn.self, l.fn.room) (take l.n (digits 4 l.address))))
    × (length l.room ≡ length l.initial.room)
