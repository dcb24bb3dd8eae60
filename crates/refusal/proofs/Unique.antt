-- Any two answers that the contract of a function allows are equal.
-- Assumes nothing.
use mathlib.Core.Path.{sym, ◌∙◌}
use Rattle.facts.proofs.Unique.{Unique}
use Rattle.refusal.proofs.Refusal.number.Kinds as number-kinds
use Rattle.refusal.proofs.Refusal.number.Reads as number
use Rattle.refusal.proofs.Refusal.needed.Kinds as needed-kinds
use Rattle.refusal.proofs.Refusal.needed.Reads as needed
use Rattle.refusal.proofs.RefusalFromU8.from.Kinds as from-kinds
use Rattle.refusal.proofs.RefusalFromU8.from.Reads as from-reads
use Rattle.refusal.proofs.Told.{says_one}

number_unique : Unique 0 number-kinds.ps number-kinds.r number.Post
number_unique κs a x y s t p q = p ∙ sym q

needed_unique : Unique 0 needed-kinds.ps needed-kinds.r needed.Post
needed_unique κs a x y s t p q = p ∙ sym q

from_unique : Unique 0 from-kinds.ps from-kinds.r from-reads.Post
from_unique κs a x y s t p q = says_one x y (p ∙ sym q)
