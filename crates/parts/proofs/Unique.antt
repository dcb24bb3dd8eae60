-- Any two answers that a contract of this crate allows are equal.
-- Assumes nothing.
use mathlib.Core.Path.{sym, ◌∙◌}
use Rattle.facts.proofs.Unique.{Unique}
use Rattle.parts.proofs.size_in_parts.Kinds as size-in-parts-kinds
use Rattle.parts.proofs.size_in_parts.Reads as size-in-parts
use Rattle.parts.proofs.next_piece.Kinds as next-piece-kinds
use Rattle.parts.proofs.next_piece.Reads as next-piece

size_in_parts_unique : Unique 0 size-in-parts-kinds.ps size-in-parts-kinds.r size-in-parts.Post
size_in_parts_unique κs a x y s t p q = p ∙ sym q

next_piece_unique : Unique 0 next-piece-kinds.ps next-piece-kinds.r next-piece.Post
next_piece_unique κs a x y s t p q = p ∙ sym q
