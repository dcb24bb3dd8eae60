-- `read_unjoined` meets its contract: refusal 5, or what the bytes before the place read as.
-- Assumes nothing.
use Prim.Native.Nat.{◌≤◌, ◌<◌}
use native.Mathlib.Omega.{arith}
use Rattle.sindovaleph_rows.proofs.Rows.{reads_needs, reads_part}
use Rattle.sindovaleph_rows.proofs.listing.read_unjoined.Goals as goal

pub returns-then-found-gt0 : goal.returns-then-found-gt0
returns-then-found-gt0 c = reads_needs c.requires _ _ _ c.if-found-gt1.true c.if-found-gt0.true

pub returns : goal.returns
returns c =
    let short : 1 < c.args.found.parts → c.args.found.len ≤ 0 = λ h. grind arith in
    reads_part c.requires _ _ _ short _ c.read.ensures
