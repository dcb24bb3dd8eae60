-- `put_numbers` meets its contract: after so many turns the bytes of so many numbers are put.
-- Assumes nothing.
use Rattle.std.proofs.Common.{◌≡◌, ◌+◌, ◌*◌, map}
use Rattle.facts.proofs.Laid.{Laid}
use Rattle.rfc.specs.Typed.{digits_of}
use Rattle.encoder.proofs.put_numbers.Given as goal

abbrev pub invariant-loop-number : goal.invariant-loop-number
invariant-loop-number g l =
    let n = g.N.Number in
    (l.at ≡ l.place + n.WIDTH * l.number-index) × Laid l.initial.room l.room (digits_of n.WIDTH (map n.value l.numbers)) l.place (n.WIDTH * l.number-index)
