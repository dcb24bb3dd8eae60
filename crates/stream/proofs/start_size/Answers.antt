-- `start_size` meets its contract: the chunk is empty, or its first byte begins a size.
-- Assumes nothing.
use Rattle.std.proofs.Common.{refl}
use Rattle.std.proofs.lemmas.List.{nil_from_length}
use Rattle.rfc.specs.Stream as rfc
use Rattle.stream.proofs.start_size.Goals as goal

pub returns-in-Some : goal.returns-in-Some
unfolding rfc.start_size
returns-in-Some c = rw c.in-Some.ensures.cases.0 c.end_size.ensures

pub returns-in-None : goal.returns-in-None
unfolding rfc.start_size
returns-in-None c = rw (nil_from_length _ c.in-None.ensures.cases, c.more.ensures) (record { tells = refl; used = refl; stands = refl; left = refl })
