-- Any two answers that the contract of a write of rows allows are equal, and so are the rooms that it leaves.
-- Assumes nothing.
use mathlib.Core.Path.{sym, ◌∙◌}
use Rattle.facts.proofs.Unique.{UniqueLeft}
use Rattle.sindovaleph_rows.proofs.writing.sindovaleph_write_list.Kinds as write-list-kinds
use Rattle.sindovaleph_rows.proofs.writing.sindovaleph_write_list.Reads as write-list

write_list_unique : UniqueLeft 3 write-list-kinds.ps write-list-kinds.r write-list.Post (λ κs s. s.0.now)
write_list_unique κs a x y s t p q = (p.told ∙ sym q.told, p.left ∙ sym q.left)
