-- The walk goes on where the definition says, by what the two functions that it calls promise.
-- Assumes nothing.
use mathlib.Core.Path.{◌≡◌, ap, ◌∙◌}
use Prim.Native.Nat.{ℕ}
use mathlib.Core.List.{List}
use Rattle.std.specs.Prelude.{Result}
use Rattle.rfc.specs.Numbers.{Answer}
use Rattle.rfc.specs.Walk.{Found, place_after}
use Rattle.refusal.specs.declared.Refusal.{Refusal}
use Rattle.borrowed.specs.Walked.{Stepped, place_of}
use Rattle.borrowed.specs.declared.answer.Step.{Step}
use Rattle.borrowed.proofs.Answers.{place_says}
use Rattle.lent.specs.Moved.{Moved}

pub moves : {area join join' : List ℕ} {place place' : ℕ} {r : Result Step Refusal} → Stepped area place join join' r → place' ≡ place_of r place
    → Moved area place place' join join' r
moves {area = area} {join' = join'} {place = place} {r = r} s e =
    record { stepped = s; moved = e ∙ place_says r area join' place ∙ ap (λ (a : Answer Found). place_after a place) s.told }
