-- Any two answers that a contract of this crate allows are equal.
-- Assumes nothing.
use mathlib.Core.Path.{sym, ◌∙◌}
use Rattle.facts.proofs.Unique.{Unique}
use Rattle.crossing.proofs.FieldFromResultUsizeRefusal.from.Kinds as field-of-kinds
use Rattle.crossing.proofs.FieldFromResultUsizeRefusal.from.Reads as field_of
use Rattle.crossing.proofs.step_of.Kinds as step-of-kinds
use Rattle.crossing.proofs.step_of.Reads as step_of_lem
use Rattle.crossing.proofs.StepFromFound.from.Kinds as option-of-kinds
use Rattle.crossing.proofs.StepFromFound.from.Reads as option-of
use Rattle.crossing.proofs.ValueFromHeld.from.Kinds as held-of-kinds
use Rattle.crossing.proofs.ValueFromHeld.from.Reads as held-of
use Rattle.crossing.proofs.stop_number.Kinds as stop-number-kinds
use Rattle.crossing.proofs.stop_number.Reads as stop-number
use Rattle.crossing.proofs.ValueFromResultHeldRefusal.from.Kinds as value-of-kinds
use Rattle.crossing.proofs.ValueFromResultHeldRefusal.from.Reads as value_of_lem
use Rattle.crossing.proofs.ElementFromResultEntryRefusal.from.Kinds as element-of-kinds
use Rattle.crossing.proofs.ElementFromResultEntryRefusal.from.Reads as element-of
use Rattle.crossing.proofs.written_of.Kinds as written-of-kinds
use Rattle.crossing.proofs.written_of.Reads as written_of_lem

field_of_unique : Unique 0 field-of-kinds.ps field-of-kinds.r field_of.Post
field_of_unique κs a x y s t p q = p ∙ sym q

step_of_unique : Unique 0 step-of-kinds.ps step-of-kinds.r step_of_lem.Post
step_of_unique κs a x y s t p q = p ∙ sym q

option_of_unique : Unique 0 option-of-kinds.ps option-of-kinds.r option-of.Post
option_of_unique κs a x y s t p q = p ∙ sym q

held_of_unique : Unique 0 held-of-kinds.ps held-of-kinds.r held-of.Post
held_of_unique κs a x y s t p q = p ∙ sym q

stop_number_unique : Unique 0 stop-number-kinds.ps stop-number-kinds.r stop-number.Post
stop_number_unique κs a x y s t p q = p ∙ sym q

value_of_unique : Unique 0 value-of-kinds.ps value-of-kinds.r value_of_lem.Post
value_of_unique κs a x y s t p q = p ∙ sym q

element_of_unique : Unique 0 element-of-kinds.ps element-of-kinds.r element-of.Post
element_of_unique κs a x y s t p q = p ∙ sym q

written_of_unique : Unique 0 written-of-kinds.ps written-of-kinds.r written_of_lem.Post
written_of_unique κs a x y s t p q = p ∙ sym q
