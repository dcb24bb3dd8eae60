-- Any two answers that the contracts of `find` and `entry` allow are equal, and so is what they leave in the join buffer.
-- Assumes nothing.
use Rattle.facts.proofs.Unique.{UniqueLeft}
use Rattle.borrowed.proofs.Unique.{walked_one}
use Rattle.aggregate.proofs.find.Kinds as find-kinds
use Rattle.aggregate.proofs.find.Reads as find
use Rattle.aggregate.proofs.entry.Kinds as entry-kinds
use Rattle.aggregate.proofs.entry.Reads as entry

find_unique : UniqueLeft 2 find-kinds.ps find-kinds.r find.Post (λ κs s. s.1.1.0.now)
find_unique κs a x y s t p q = walked_one p q

entry_unique : UniqueLeft 2 entry-kinds.ps entry-kinds.r entry.Post (λ κs s. s.1.1.0.now)
entry_unique κs a x y s t p q = walked_one p q
