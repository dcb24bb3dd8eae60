-- What a writer's contract says, over the definitions of `Rattle.rfc.specs.Writing`: one record for all writers.
-- Assumes nothing.
use Rattle.std.specs.Prelude.{ℕ, ◌≡◌, List, Result}
use Rattle.rfc.specs.Writing.{Write, answer_to, room_after}
use Rattle.refusal.specs.declared.Refusal.{Refusal}
use Rattle.refusal.specs.Told.{told}

-- the write w at a place, from a room to a room', answers r
pub record Wrote (w : Write) (room room' : List ℕ) (place : ℕ) (r : Result ℕ Refusal) : Type 0 where
  pub tells : told r ≡ answer_to w room place
  pub left : room' ≡ room_after w room place
