-- Any two answers that the contract of `is_utf8` allows are equal.
-- Assumes nothing.
use mathlib.Core.Path.{◌∙◌, sym}
use Rattle.facts.proofs.Unique.{Unique}
use Rattle.text.proofs.is_utf8.Kinds as is-utf8-kinds
use Rattle.text.proofs.is_utf8.Reads as is-utf8

is_utf8_unique : Unique 1 is-utf8-kinds.ps is-utf8-kinds.r is-utf8.Post
is_utf8_unique κs a x y s t p q = p ∙ sym q
