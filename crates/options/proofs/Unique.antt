-- Any two answers that the contract of a writer allows are equal, and so are the rooms that it leaves.
-- Assumes nothing.
use mathlib.Core.Path.{sym, ◌∙◌}
use Rattle.facts.proofs.Unique.{UniqueLeft}
use Rattle.encoder.proofs.Answers.{wrote_one}
use Rattle.options.proofs.Runs.{rows_one}
use Rattle.options.proofs.write_bytes.Kinds as write-bytes-kinds
use Rattle.options.proofs.write_bytes.Reads as write_bytes
use Rattle.options.proofs.close.Kinds as close-kinds
use Rattle.options.proofs.close.Reads as close
use Rattle.options.proofs.rows.write_rows.Kinds as write-rows-kinds
use Rattle.options.proofs.rows.write_rows.Reads as write-rows

write_bytes_unique : UniqueLeft 2 write-bytes-kinds.ps write-bytes-kinds.r write_bytes.Post (λ κs s. s.0.now)
write_bytes_unique κs a x y s t p q = wrote_one p q

close_unique : UniqueLeft 1 close-kinds.ps close-kinds.r close.Post (λ κs s. s.0.now)
close_unique κs a x y s t p q = wrote_one p q

write_rows_unique : UniqueLeft 3 write-rows-kinds.ps write-rows-kinds.r write-rows.Post (λ κs s. s.0.now)
write_rows_unique κs a x y s t p q = (rows_one _ _ (p.tells ∙ sym q.tells), p.left ∙ sym q.left)
