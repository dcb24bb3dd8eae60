-- Any two answers that the contract of the exported function allows are equal.
-- Assumes nothing.
use mathlib.Core.Path.{sym, ◌∙◌}
use Rattle.facts.proofs.Unique.{Unique}
use Rattle.sindovaleph_elements.proofs.sindovaleph_element.Kinds as element-kinds
use Rattle.sindovaleph_elements.proofs.sindovaleph_element.Reads as element

element_unique : Unique 1 element-kinds.ps element-kinds.r element.Post
element_unique κs a x y s t p q = p ∙ sym q
