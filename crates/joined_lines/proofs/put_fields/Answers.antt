-- `put_fields` meets its contract: the names of the fields and a line for each code, or the refusal.
-- Assumes nothing.
use Rattle.pen.proofs.Added.{both}
use Rattle.joined_lines.specs.Joined.{fields_lines}
use Rattle.joined_lines.proofs.put_fields.Goals as goal

pub returns-in-Ok : goal.returns-in-Ok
unfolding fields_lines
returns-in-Ok c =
    rw (← c.in-Ok.ensures, ← c.fields_line.ensures) (both c.word.ensures c.put_entries.ensures)
