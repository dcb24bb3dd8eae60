-- `put_part` meets its contract: two stores and a copy are one write.
-- Assumes nothing.
use mathlib.Core.Path.{refl}
use native.Mathlib.Omega.{arith}
use Rattle.encoder.proofs.Cuts.{part_put}
use Rattle.options.proofs.put_part.Goals as goal

pub returns : goal.returns
returns c = part_put c.args.bytes.now _ _ _ refl (omega arith) c.write_slice.ensures
