-- Any two answers that the contract of `write_joined` allows are equal, and so are the rooms that it leaves.
-- Assumes nothing.
use Rattle.facts.proofs.Unique.{UniqueLeft}
use Rattle.encoder.proofs.Answers.{wrote_one}
use Rattle.joined_lines.proofs.write_joined.Kinds as write-joined-kinds
use Rattle.joined_lines.proofs.write_joined.Reads as write-joined

write_joined_unique : UniqueLeft 2 write-joined-kinds.ps write-joined-kinds.r write-joined.Post (λ κs s. s.0.now)
write_joined_unique κs a x y s t p q = wrote_one p q
