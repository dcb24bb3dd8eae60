-- What the contracts of the walk say, over the definitions of `Rattle.rfc.specs.Walk`.
-- Assumes nothing.
use Rattle.std.specs.Prelude.{ℕ, ◌+◌, ◌-◌, ◌*◌, ◌≤◌, ◌<◌, ◌≡◌, List, [], cond, length, take, drop, get_or, leb}
use Rattle.std.specs.Prelude.{Option, Some, None, Result, Ok, Err}
use Rattle.rfc.specs.Numbers.{Answer, given, refused, needs, pad_code, end_code, most_bytes}
use Rattle.rfc.specs.Walk as rfc
use Rattle.rfc.specs.Walk.{stop, option, run, cut, further, walk, join_after}
use Rattle.refusal.specs.Told as refusal
use Rattle.refusal.specs.declared.Refusal.{Refusal}
use Rattle.borrowed.specs.declared.answer.Stop.{Stop}
use Rattle.borrowed.specs.declared.answer.Stop.TheVariants.{Out, End, CutLength, CutValue, CutContinuation}
use Rattle.borrowed.specs.declared.answer.Step.{Step}
use Rattle.borrowed.specs.declared.answer.Step.TheVariants.{Stopped, Found}
use Rattle.borrowed.specs.declared.Begun.{Begun}
use Rattle.borrowed.specs.declared.Begun.TheVariants as begun
use Rattle.borrowed.specs.declared.parts.Run.{Run}

-- each stop's name in the definitions
abbrev pub stop_of : Stop → rfc.Stop
stop_of Out = rfc.out
stop_of End = rfc.end
stop_of CutLength = rfc.cut_length
stop_of CutValue = rfc.cut_value
stop_of CutContinuation = rfc.cut_continuation

-- each stop's name in the code
abbrev pub stop_back : rfc.Stop → Stop
stop_back rfc.out = Out
stop_back rfc.end = End
stop_back rfc.cut_length = CutLength
stop_back rfc.cut_value = CutValue
stop_back rfc.cut_continuation = CutContinuation

-- what is found, by its numbers
abbrev pub sized : rfc.Found → Step
sized (stop s at) = Stopped (stop_back s) at
sized (option code v n at) = Found (record { code = code; parts = n; len = length v; place = at })

-- what a call answers, by its numbers
abbrev pub sizes : Answer rfc.Found → Answer Step
sizes (given f) = given (sized f)
sizes (refused k) = refused k
sizes (needs n) = needs n

-- the len bytes from `start` on, or none where they are not all there
unfoldable pub part_of : List ℕ → ℕ → ℕ → List ℕ
part_of bytes start len = cond (leb (start + len) (length bytes)) (take len (drop start bytes)) []

-- the bytes that an option shows: with one part the len bytes of the area before `place`, with more the first len bytes of the join buffer
unfoldable pub shown : ℕ → ℕ → ℕ → List ℕ → List ℕ → List ℕ
shown parts len place area join = cond (leb parts 1) (cond (leb len place) (part_of area (place - len) len) []) (part_of join 0 len)

-- what each case of a step shows, with the area and what the join buffer then holds: the document's values
abbrev pub shows : Step → List ℕ → List ℕ → rfc.Found
shows (Stopped s at) area join = stop (stop_of s) at
shows (Found f) area join = option f.code (shown f.parts f.len f.place area join) f.parts f.place

-- and what an answer says: what was found, or the document's number
abbrev pub says : Result Step Refusal → List ℕ → List ℕ → Answer rfc.Found
says (Ok s) area join = given (shows s area join)
says (Err e) area join = refusal.says e

-- the bytes that an option shows are there: with one part before its place, with more in the join buffer
abbrev pub Inside : Result Step Refusal → List ℕ → List ℕ → Type 0
Inside (Ok (Stopped s at)) area join = Unit {0}
Inside (Ok (Found f)) area join = (f.parts ≤ 1 → f.len ≤ f.place) × (f.place ≤ length area) × (1 < f.parts → f.len ≤ length join)
Inside (Err e) area join = Unit {0}

-- a call, from a join buffer to a join buffer, answers r, which says what the definition answers
pub record Walked (area join join' : List ℕ) (r : Result Step Refusal) (answer : Answer rfc.Found) : Type 0 where
  pub told : says r area join' ≡ answer
  pub inside : Inside r area join'
  pub kept : join' ≡ join_after answer join

-- one call at a place
abbrev pub Stepped : List ℕ → ℕ → List ℕ → List ℕ → Result Step Refusal → Type 0
Stepped area place join join' r = Walked area join join' r (rfc.step area place (length join))

-- where the walk goes on after a step from a place
abbrev pub place_of : Result Step Refusal → ℕ → ℕ
place_of (Ok (Stopped s at)) place = at
place_of (Ok (Found f)) place = f.place
place_of (Err e) place = place

-- Between the functions of the crate: r is behind the Pads from `place` on
pub record Skipped (area : List ℕ) (place r : ℕ) : Type 0 where
  pub within : r ≤ length area
  pub same : walk place (drop place area) ≡ walk r (drop r area)
  pub other : r < length area → get_or area r 0 ≡ pad_code → ⊥

-- the place behind the part at a place
abbrev pub behind : List ℕ → ℕ → ℕ
behind area at = at + 2 + get_or area (at + 1) 0

-- a place of an area that is not too long, at no Pad
pub record Ready (area : List ℕ) (at : ℕ) : Type 0 where
  pub small : length area ≤ most_bytes
  pub within : at ≤ length area
  pub other : at < length area → get_or area at 0 ≡ pad_code → ⊥

-- such a place with neither Pad nor End, at which a whole part begins
pub record Starts (area : List ℕ) (at : ℕ) : Type 0 where
  pub small : length area ≤ most_bytes
  pub inside : at < length area
  pub other : get_or area at 0 ≡ pad_code → ⊥
  pub goes_on : get_or area at 0 ≡ end_code → ⊥
  pub within : behind area at ≤ length area

-- and behind it another of the same code
pub record Continues (area : List ℕ) (at : ℕ) : Type 0 where
  pub starts : Starts area at
  pub inside : behind area at < length area
  pub same : get_or area (behind area at) 0 ≡ get_or area at 0

-- a step that found an option of one part, or none
abbrev pub OnePart : Step → Type 0
OnePart (Stopped s at) = Unit {0}
OnePart (Found f) = f.parts ≡ 1

-- how a call begins that answers this: with its answer, or at an option of several parts, where a call would answer the same
abbrev pub Begins : Result Begun Refusal → List ℕ → Answer rfc.Found → Type 0
Begins (Ok (begun.Done s)) area answer = (given s ≡ sizes answer) × OnePart s
Begins (Ok (begun.Several at)) area answer = Continues area at × (answer ≡ rfc.look area at)
Begins (Err e) area answer = refusal.says e ≡ sizes answer

-- a run by its numbers
abbrev pub size_of : rfc.Run → Option Run
size_of cut = None
size_of (run n vs) = Some (record { parts = n; len = length vs })

-- the joined values of a run
abbrev pub values : rfc.Run → List ℕ
values cut = []
values (run n vs) = vs

-- the joined values of the parts that begin at a place
abbrev pub values_at : List ℕ → ℕ → List ℕ
values_at area at = values (further (get_or area at 0) (drop at area))

-- from `at` to `end` stand whole parts of one code, whose values fit in `room` bytes
pub record PartsTo (area : List ℕ) (at end room : ℕ) : Type 0 where
  pub parts : ℕ
  pub whole : further (get_or area at 0) (drop at area) ≡ run parts (values_at area at)
  pub ends : end ≡ at + (2 * parts + length (values_at area at))
  pub fits : length (values_at area at) ≤ room
