-- Any two answers that the contract of a writer allows are equal, and so are the rooms that it leaves.
-- Assumes nothing.
use Rattle.facts.proofs.Unique.{UniqueLeft}
use Rattle.encoder.proofs.Answers.{wrote_one}
use Rattle.lists.proofs.write_addresses.Kinds as write-addresses-kinds
use Rattle.lists.proofs.write_addresses.Reads as write-addresses
use Rattle.lists.proofs.write_pairs.Kinds as write-pairs-kinds
use Rattle.lists.proofs.write_pairs.Reads as write-pairs
use Rattle.lists.proofs.write_u16s.Kinds as write-u16s-kinds
use Rattle.lists.proofs.write_u16s.Reads as write-u16s

write_addresses_unique : UniqueLeft 2 write-addresses-kinds.ps write-addresses-kinds.r write-addresses.Post (λ κs s. s.0.now)
write_addresses_unique κs a x y s t p q = wrote_one p q

write_pairs_unique : UniqueLeft 2 write-pairs-kinds.ps write-pairs-kinds.r write-pairs.Post (λ κs s. s.0.now)
write_pairs_unique κs a x y s t p q = wrote_one p q

write_u16s_unique : UniqueLeft 2 write-u16s-kinds.ps write-u16s-kinds.r write-u16s.Post (λ κs s. s.0.now)
write_u16s_unique κs a x y s t p q = wrote_one p q
