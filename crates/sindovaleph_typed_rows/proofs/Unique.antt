-- Any two answers that the contract of the exported function allows are equal, and so are the rows that they leave.
-- Assumes nothing.
use Rattle.facts.proofs.Unique.{UniqueLeft}
use Rattle.sindovaleph_rows.proofs.Unique.{lists_one}
use Rattle.sindovaleph_typed_rows.proofs.sindovaleph_read_list.Kinds as read-list-kinds
use Rattle.sindovaleph_typed_rows.proofs.sindovaleph_read_list.Reads as read-list

read_list_unique : UniqueLeft 2 read-list-kinds.ps read-list-kinds.r read-list.Post (λ κs s. s.1.1.0.now)
read_list_unique κs a x y s t p q = lists_one p q
