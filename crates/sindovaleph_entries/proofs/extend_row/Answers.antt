-- `extend_row` meets its contract: each number of the row is stored, or stays.
-- Assumes nothing.
use Rattle.sindovaleph_entries.proofs.Extending.{with_bytes, without_bytes}
use Rattle.sindovaleph_entries.proofs.extend_row.Goals as goal

pub returns-then-len-gt0 : goal.returns-then-len-gt0
returns-then-len-gt0 c =
    with_bytes _ c.args.row c.args.len c.args.place c.requires.there

pub returns-else-len-gt0 : goal.returns-else-len-gt0
returns-else-len-gt0 c =
    without_bytes _ c.args.row c.args.len c.args.place c.requires.there c.if-len-gt0.false
