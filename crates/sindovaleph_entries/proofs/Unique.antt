-- Any two answers that the contract of the exported function allows are equal, and so are the rows that they leave.
-- Assumes nothing.
use mathlib.Core.Path.{sym, ◌∙◌}
use Rattle.facts.proofs.Unique.{UniqueLeft}
use Rattle.sindovaleph_entries.proofs.sindovaleph_entries.Kinds as entries-kinds
use Rattle.sindovaleph_entries.proofs.sindovaleph_entries.Reads as entries

entries_unique : UniqueLeft 2 entries-kinds.ps entries-kinds.r entries.Post (λ κs s. s.1.0.now)
entries_unique κs a x y s t p q = (p.told ∙ sym q.told, p.kept ∙ sym q.kept)
