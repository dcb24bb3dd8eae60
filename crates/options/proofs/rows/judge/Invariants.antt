-- `judge` meets its contract: from where the loop stands, the rows that are left give the same outcome (`Reached`), in the room as it
-- would be written.
-- Assumes nothing.
use Rattle.options.proofs.Runs.{Judged}
use Rattle.options.proofs.rows.judge.Given as goal

abbrev pub invariant-loop-row : goal.invariant-loop-row
invariant-loop-row l = Judged l.rows l.values l.room l.place l.at l.row
