-- Any two answers that the contract of an exported function allows are equal, and so is what they leave in lent memory.
-- Assumes nothing.
use mathlib.Core.Path.{sym, ◌∙◌}
use Rattle.facts.proofs.Unique.{Unique, UniqueLeft}
use Rattle.sindovaleph_aggregate.proofs.sindovaleph_overload.Kinds as overload-kinds
use Rattle.sindovaleph_aggregate.proofs.sindovaleph_overload.Reads as overload
use Rattle.sindovaleph_aggregate.proofs.sindovaleph_find.Kinds as find-kinds
use Rattle.sindovaleph_aggregate.proofs.sindovaleph_find.Reads as find
use Rattle.sindovaleph_aggregate.proofs.sindovaleph_entry.Kinds as entry-kinds
use Rattle.sindovaleph_aggregate.proofs.sindovaleph_entry.Reads as entry

overload_unique : Unique 1 overload-kinds.ps overload-kinds.r overload.Post
overload_unique κs a x y s t p q = p ∙ sym q

find_unique : UniqueLeft 2 find-kinds.ps find-kinds.r find.Post (λ κs s. s.1.1.0.now)
find_unique κs a x y s t p q = (p.told ∙ sym q.told, p.kept ∙ sym q.kept)

entry_unique : UniqueLeft 2 entry-kinds.ps entry-kinds.r entry.Post (λ κs s. s.1.1.0.now)
entry_unique κs a x y s t p q = (p.told ∙ sym q.told, p.kept ∙ sym q.kept)
