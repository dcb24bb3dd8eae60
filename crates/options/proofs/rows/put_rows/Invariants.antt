-- `put_rows` meets its contract: from where the loop stands, the rows that are left give the same outcome (`Reached`), and none is refused.
-- Assumes nothing.
use Rattle.options.proofs.Runs.{Reached}
use Rattle.options.proofs.rows.put_rows.Given as goal

abbrev pub invariant-loop-row : goal.invariant-loop-row
invariant-loop-row l = Reached l.rows l.values l.initial.room l.place l.room l.at l.row
