-- `receive` meets its contract, by where the stream stands.
-- Assumes nothing.
use Rattle.std.proofs.Common.{refl}
use Rattle.rfc.specs.Stream as rfc
use Rattle.stream.proofs.receive.Goals as goal

pub returns-in-Between : goal.returns-in-Between
unfolding rfc.receive
returns-in-Between c = rw c.in-Between.is c.start_size.ensures

pub returns-in-Sizing : goal.returns-in-Sizing
unfolding rfc.receive
returns-in-Sizing c = rw c.in-Sizing.is c.end_size.ensures

pub returns-in-Filling : goal.returns-in-Filling
unfolding rfc.receive
returns-in-Filling c = rw c.in-Filling.is c.gather.ensures

pub returns-in-Shut : goal.returns-in-Shut
unfolding rfc.receive
returns-in-Shut c = rw (c.in-Shut.is, c.shut.ensures) (record { tells = refl; used = refl; stands = refl; left = refl })
