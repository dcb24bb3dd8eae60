-- What a first look at a place tells of a step there.
-- Assumes nothing.
use Rattle.std.specs.Prelude.{ℕ, ◌+◌, List, cond, length, get_or, eqb, leb}
use Rattle.rfc.specs.Numbers.{Answer, given, refused, needs, pad_code}
use Rattle.rfc.specs.Walk.{look}
use Rattle.borrowed.specs.Walked.{sizes}
use Rattle.borrowed.specs.declared.answer.Stop.TheVariants.{Out, End, CutLength, CutValue, CutContinuation}
use Rattle.borrowed.specs.declared.answer.Step.{Step}
use Rattle.borrowed.specs.declared.answer.Step.TheVariants.{Stopped, Found}
use Rattle.borrowed.specs.declared.answer.First.{First}
use Rattle.borrowed.specs.declared.answer.First.TheVariants.{Alone, Ends, Several, Other}

-- what is found, as far as one part tells it: an option of one part, and End; that a further part follows; and of all else nothing
abbrev pub told_first : Answer Step → First
told_first (given (Found f)) = cond (eqb f.parts 1) (Alone f) Several
told_first (given (Stopped End at)) = Ends at
told_first (given (Stopped CutContinuation at)) = Several
told_first (given (Stopped Out at)) = Other
told_first (given (Stopped CutLength at)) = Other
told_first (given (Stopped CutValue at)) = Other
told_first (refused number) = Other
told_first (needs len) = Other

-- at a place where no Pad stands, with a byte behind it: that, and else nothing
unfoldable pub first_of : List ℕ → ℕ → First
first_of area place =
    cond (leb (place + 2) (length area)) (cond (eqb (get_or area place 0) pad_code) Other (told_first (sizes (look area place)))) Other
