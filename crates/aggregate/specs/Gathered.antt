-- What the contracts of RFC 3396's reading say, over the definitions of `Rattle.rfc.specs.Aggregate`.
-- Assumes nothing.
use Rattle.std.specs.Prelude.{ℕ, ◌+◌, ◌≤◌, ◌≡◌, List, length, drop, Result}
use Rattle.rfc.specs.Portions.{Portion, whole, portions, parts_in, of_code, joined_value}
use Rattle.refusal.specs.declared.Refusal.{Refusal}
use Rattle.rfc.specs.Aggregate as rfc
use Rattle.borrowed.specs.Walked.{Walked}
use Rattle.borrowed.specs.declared.answer.Step.{Step}

-- one code of a message, from a join buffer to a join buffer, answers r
abbrev pub Finds : List ℕ → ℕ → List ℕ → List ℕ → Result Step Refusal → Type 0
Finds message code join join' r = Walked message join join' r (rfc.find message code (length join))

-- the option at an index
abbrev pub Enters : List ℕ → ℕ → List ℕ → List ℕ → Result Step Refusal → Type 0
Enters message index join join' r = Walked message join join' r (rfc.entry message index (length join))

-- Between the functions of the crate: the values of a code in the field that begins at a place, joined
abbrev pub value_in : List ℕ → ℕ → ℕ → List ℕ
value_in bytes start code = joined_value (of_code code (parts_in (portions start (drop start bytes))))

-- the field is whole, and there is room for them
pub record Joins (bytes : List ℕ) (start code : ℕ) (join : List ℕ) (to : ℕ) : Type 0 where
  pub parts : List Portion
  pub uncut : portions start (drop start bytes) ≡ whole parts
  pub fits : to + length (value_in bytes start code) ≤ length join
