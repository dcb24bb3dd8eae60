-- Any two answers that the contract of a move allows are equal, and so are the rooms that it leaves.
-- Assumes nothing.
use Rattle.facts.proofs.Unique.{UniqueLeft}
use Rattle.encoder.proofs.Answers.{wrote_one}
use Rattle.moves.proofs.move_out.Kinds as move-out-kinds
use Rattle.moves.proofs.move_out.Reads as move-out
use Rattle.moves.proofs.move_back.Kinds as move-back-kinds
use Rattle.moves.proofs.move_back.Reads as move-back

move_out_unique : UniqueLeft 2 move-out-kinds.ps move-out-kinds.r move-out.Post (λ κs s. s.0.now)
move_out_unique κs a x y s t p q = wrote_one p q

move_back_unique : UniqueLeft 2 move-back-kinds.ps move-back-kinds.r move-back.Post (λ κs s. s.0.now)
move_back_unique κs a x y s t p q = wrote_one p q
