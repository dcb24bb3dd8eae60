-- Any two answers that a contract of `fields` allows are equal.
-- Assumes nothing.
use mathlib.Core.Path.{sym, ◌∙◌}
use Rattle.facts.proofs.Unique.{Unique}
use Rattle.refusal.proofs.Told.{told_one}
use Rattle.aggregate.proofs.fields.overload.Kinds as overload-kinds
use Rattle.aggregate.proofs.fields.overload.Reads as overload
use Rattle.aggregate.proofs.fields.spans_of.Kinds as spans-of-kinds
use Rattle.aggregate.proofs.fields.spans_of.Reads as spans-of

overload_unique : Unique 1 overload-kinds.ps overload-kinds.r overload.Post
overload_unique κs a x y s t p q = told_one x y (p ∙ sym q)

spans_of_unique : Unique 1 spans-of-kinds.ps spans-of-kinds.r spans-of.Post
spans_of_unique κs a x y s t p q = p ∙ sym q
