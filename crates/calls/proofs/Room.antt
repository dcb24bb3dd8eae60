-- The room that a listing takes.
-- Assumes nothing.
use mathlib.Core.Path.{◌≡◌, ap, ◌∙◌}
use Prim.Native.Nat.{◌+◌}
use native.Mathlib.Omega.{arith}
use lib.ListN.{length}
use Rattle.rfc.specs.Numbers.{given}
use Rattle.rfc.proofs.Writing.{into_given}
use Rattle.lines.specs.Listing.{listing}
use Rattle.lines.proofs.Room.{listing_most}
use Rattle.joined_lines.proofs.Room.{joined_most}
use Rattle.crossing.specs.Carried.{written_of}
use Rattle.calls.specs.Room.{ListingFits, JoinedFits, AlwaysListed}

pub listing_fits : ListingFits
listing_fits message bytes = listing_most message bytes

pub joined_fits : JoinedFits
joined_fits message bytes = joined_most message bytes

pub always_listed : AlwaysListed
always_listed message room room' r bytes whole wrote =
    let given_so = into_given (listing message) room 0 (omega arith) (omega arith) (omega (arith, listing_most message bytes)) in
    let to : 0 + length (listing message) ≡ length (listing message) = omega arith in
    wrote.told ∙ ap (written_of 0) (given_so ∙ ap given to)
