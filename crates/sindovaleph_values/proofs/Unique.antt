-- Any two answers that the contract of the exported function allows are equal.
-- Assumes nothing.
use mathlib.Core.Path.{sym, ◌∙◌}
use Rattle.facts.proofs.Unique.{Unique}
use Rattle.sindovaleph_values.proofs.sindovaleph_read.Kinds as read-kinds
use Rattle.sindovaleph_values.proofs.sindovaleph_read.Reads as read

read_unique : Unique 1 read-kinds.ps read-kinds.r read.Post
read_unique κs a x y s t p q = p ∙ sym q
