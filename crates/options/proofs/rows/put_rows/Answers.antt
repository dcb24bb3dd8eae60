-- `put_rows` meets its contract: from where the loop stands, the rows that are left give the same outcome (`Reached`), and none is refused.
-- Assumes nothing.
use Rattle.options.proofs.Runs.{reached_passes, written_more, written_all}
use Rattle.options.proofs.rows.put_rows.Goals as goal

pub put_row-at-requires : goal.put_row-at-requires
put_row-at-requires c = rw c.row_at.ensures (reached_passes c.loop-row.invariant c.loop-row-test.true c.requires)

pub loop-row-preserved : goal.loop-row-preserved
loop-row-preserved c =
    written_more c.loop-row.invariant c.loop-row-test.true (rw c.row_at.ensures at c.put_row-at.ensures)

pub returns : goal.returns
returns c = written_all c.loop-row.invariant c.loop-row-test.false
