-- What a call of the lent walk answers and leaves.
-- Assumes nothing.
use Rattle.std.specs.Prelude.{ℕ, ◌≡◌, List, length, Result}
use Rattle.rfc.specs.Walk as rfc
use Rattle.refusal.specs.declared.Refusal.{Refusal}
use Rattle.borrowed.specs.Walked.{Stepped}
use Rattle.borrowed.specs.declared.answer.Step.{Step}

-- a call, from a place to a place and from a join buffer to a join buffer, answers r as the step by value does, and leaves the walk where
-- the definition goes on: behind what it found, or, after a refusal, where it was
pub record Moved (area : List ℕ) (place place' : ℕ) (join join' : List ℕ) (r : Result Step Refusal) : Type 0 where
  pub stepped : Stepped area place join join' r
  pub moved : place' ≡ rfc.place_after (rfc.step area place (length join)) place
