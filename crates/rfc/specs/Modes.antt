-- What both modes say of one field: the neighbour walk, and RFC 3396's reading beside it (document 02, ticket 1).
-- Assumes nothing.
use Rattle.std.specs.Prelude.{ℕ, cond, List, [], ◌∷◌, ◌++◌, eqb}
use Rattle.rfc.specs.Numbers.{Answer, given}
use Rattle.rfc.specs.Walk.{Found, stop, out, end, cut_length, cut_value, cut_continuation}
use Rattle.rfc.specs.Lists.{Opt}

-- the values of one code in what the walk lists, one behind the other
unfoldable pub values_in : ℕ → List Opt → List ℕ
values_in code [] = []
values_in code (o ∷ os) = cond (eqb o.code code) (o.value ++ values_in code os) (values_in code os)

-- how the walk's listing ends of a field that is cut, and of one that is not
pub data EndsCut : Answer Found → Type 0 where
  at_length : (at : ℕ) → EndsCut (given (stop cut_length at))
  at_value : (at : ℕ) → EndsCut (given (stop cut_value at))
  at_continuation : (at : ℕ) → EndsCut (given (stop cut_continuation at))

pub data EndsWhole : Answer Found → Type 0 where
  at_out : (at : ℕ) → EndsWhole (given (stop out at))
  at_end : (at : ℕ) → EndsWhole (given (stop end at))
