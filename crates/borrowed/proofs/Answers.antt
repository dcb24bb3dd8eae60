-- Each answer of a step says what the definitions say.
-- Assumes nothing.
use mathlib.Core.Path.{◌≡◌, refl, sym, ap, ◌∙◌}
use Prim.Native.Nat.{ℕ, ◌+◌, ◌-◌, ◌*◌, ◌≤◌, ◌<◌}
use native.Mathlib.Omega.{arith}
use mathlib.Core.List.{List, [], ◌++◌}
use lib.ListN.{length, take, drop, get_or, length-append, length-drop}
use lib.Seq.{length-take-le}
use Rattle.std.specs.Prelude.{Option, Some, None, Result, Ok, Err}
use Rattle.facts.specs.Over.{over}
use Rattle.facts.proofs.Over.{length_over, shown_over}
use Rattle.rfc.specs.Numbers.{Answer, given, refused, needs, and_then, pad_code, end_code, most_bytes}
use Rattle.rfc.specs.Walk as rfc
use Rattle.rfc.specs.Walk.{run, further, joined, walk, room_for, look, join_after, place_after, stop, option}
use Rattle.rfc.proofs.Walk.{step_looks, step_found, stop_moves, option_moves}
use Rattle.rfc.proofs.Walk.{joined_cut, joined_run, stop_answered, stop_keeps, needs_keeps}
use Rattle.rfc.proofs.Walk.{one_answered, one_keeps, many_answered, many_joined, many_needs, look_walks, step_alike}
use Rattle.rfc.proofs.Places.{Stands, look_stands, whole_at, some_at}
use Rattle.refusal.specs.Told as refusal
use Rattle.refusal.specs.declared.Refusal.{Refusal}
use Rattle.refusal.specs.declared.Refusal.TheVariants.{JoinTooShort}
use Rattle.borrowed.specs.Walked.{values, values_at, stop_of, stop_back, sizes, size_of, Inside, Walked, Stepped, OnePart, behind, Starts, Continues, PartsTo, shown, says, place_of}
use Rattle.borrowed.specs.declared.answer.Stop.{Stop}
use Rattle.borrowed.specs.declared.answer.Stop.TheVariants.{CutContinuation}
use Rattle.borrowed.specs.declared.answer.Found as found
use Rattle.borrowed.specs.declared.answer.Step.{Step}
use Rattle.borrowed.specs.declared.answer.Step.TheVariants.{Stopped, Found}
use Rattle.borrowed.specs.declared.parts.Run.{Run}
use Rattle.refusal.proofs.Told.{says_then}
use Rattle.borrowed.proofs.Refusals.{says_is, says_keeps, says_stays}
use Rattle.borrowed.proofs.Runs.{whole_is, cut_is}
use Rattle.borrowed.proofs.Shown.{part_there, shown_one, shown_many}

-- what the walk finds at a place is what a call finds there, by its numbers
pub looked : (area : List ℕ) (at : ℕ) {f : rfc.Found} → length area ≤ most_bytes → at ≤ length area → walk at (drop at area) ≡ f
    → sizes (given f) ≡ sizes (look area at)
looked area at s h e = ap (λ (g : rfc.Found). sizes (given g)) (sym e) ∙ ap sizes (sym (look_walks area at s h))

-- a whole part that is neither Pad nor End
pub starts_at : (area : List ℕ) (at : ℕ) → length area ≤ most_bytes → behind area at ≤ length area
    → (get_or area at 0 ≡ pad_code → ⊥) → (get_or area at 0 ≡ end_code → ⊥) → Starts area at
starts_at area at small within other goes_on =
    record { small = small; inside = omega arith; other = other; goes_on = goes_on; within = within }

-- what a call finds where a whole part begins, by the further parts
module _ {area : List ℕ} {at : ℕ} (s : Starts area at) where
  abbrev pub more : rfc.Run
  more = further (get_or area at 0) (drop (behind area at) area)

  abbrev v : List ℕ
  v = take (get_or area (at + 1) 0) (drop (at + 2) area)

  abbrev code : ℕ
  code = get_or area at 0

  finds : {f : rfc.Found} → joined code v (behind area at) more ≡ f → sizes (given f) ≡ sizes (look area at)
  finds e = looked area at s.small (omega (arith, s.inside)) (whole_at area at s.inside s.other s.goes_on s.within ∙ e)

  pub starts_cut : None ≡ size_of more → given (Stopped CutContinuation (behind area at)) ≡ sizes (look area at)
  starts_cut e = finds (joined_cut _ v _ more (cut_is more e))

  module _ (w : Run) (e : Some w ≡ size_of more) where
    -- an option of all the parts
    abbrev pub whole : found.Found
    whole =
        record {
          code = get_or area at 0;
          parts = w.parts + 1;
          len = get_or area (at + 1) 0 + w.len;
          place = behind area at + 2 * w.parts + w.len;
        }

    pub starts_whole : given (Found whole) ≡ sizes (look area at)
    starts_whole =
        let is = whole_is w more e in
        let l = length-take-le (get_or area (at + 1) 0) (drop (at + 2) area) (omega (arith, s.within, length-drop (at + 2) area)) in
        let a : get_or area (at + 1) 0 + w.len ≡ length (v ++ values more) = omega (arith, length-append v (values more), is.1) in
        let b : behind area at + 2 * w.parts + w.len ≡ behind area at + (2 * w.parts + length (values more)) = omega (arith, is.1) in
        (λ i. given (Found (record { code = code; parts = w.parts + 1; len = a i; place = b i })))
        ∙ finds (joined_run _ v _ more w.parts (values more) is.0)

  -- an option of one part
  abbrev pub alone : found.Found
  alone = record { code = get_or area at 0; parts = 1; len = get_or area (at + 1) 0; place = behind area at }

  pub starts_alone : more ≡ run 0 [] → given (Found alone) ≡ sizes (look area at)
  starts_alone e =
      let a : get_or area (at + 1) 0 ≡ get_or area (at + 1) 0 + 0 = omega arith in
      let b : behind area at ≡ behind area at + 2 * 0 + 0 = omega arith in
      (λ i. given (Found (record { code = code; parts = 1; len = a i; place = b i })))
      ∙ starts_whole (record { parts = 0; len = 0 }) (sym (ap size_of e))

-- where another part follows, the further parts are some
pub some_further : {area : List ℕ} {at : ℕ} (c : Continues area at) (w : Run) → Some w ≡ size_of (more c.starts) → 1 ≤ w.parts
some_further {area} {at} c w e =
    some_at area (behind area at) (get_or area at 0) w.parts _ c.inside c.same (whole_is w (more c.starts) e).0

-- back from its numbers to what was found
stop-of : (s : rfc.Stop) → stop_of (stop_back s) ≡ s
stop-of rfc.out = refl
stop-of rfc.end = refl
stop-of rfc.cut_length = refl
stop-of rfc.cut_value = refl
stop-of rfc.cut_continuation = refl

pub stopped_is : (s : Stop) (place : ℕ) (a : Answer rfc.Found) → given (Stopped s place) ≡ sizes a → a ≡ given (stop (stop_of s) place)
stopped_is s place (given (stop t at)) e =
    let back : stop_back t ≡ s = cc in
    let there : at ≡ place = cc in
    λ i. given (stop ((sym (stop-of t) ∙ ap stop_of back) i) (there i))
stopped_is s place (given (option c v n at)) e = cc
stopped_is s place (refused k) e = cc
stopped_is s place (needs n) e = cc

pub found_is : (f : found.Found) (a : Answer rfc.Found) → given (Found f) ≡ sizes a
    → (v : List ℕ) × (a ≡ given (option f.code v f.parts f.place)) × (length v ≡ f.len)
found_is f (given (stop s at)) e = ([], cc, cc)
found_is f (given (option c v n at)) e =
    let same : record { code = c; parts = n; len = length v; place = at } ≡ f = cc in
    (v, ap (λ (g : found.Found). given (option g.code v g.parts g.place)) same, ap (λ (g : found.Found). g.len) same)
found_is f (refused k) e = ([], cc, cc)
found_is f (needs n) e = ([], cc, cc)

-- an answer that leaves the join buffer
stays : {area join : List ℕ} {a : Answer rfc.Found} (r : Result Step Refusal) → says r area join ≡ a → Inside r area join
    → join_after (says r area join) join ≡ join → Walked area join join r a
stays {join = join} r e i k = record { told = e; inside = i; kept = sym k ∙ ap (λ (x : Answer rfc.Found). join_after x join) e }

-- what is no option is answered as it was found
module _ (area join : List ℕ) (place : ℕ) where
  abbrev room : ℕ
  room = length join

  pub passes_stop : (s : Stop) (at : ℕ) → given (Stopped s at) ≡ sizes (look area place) → Stepped area place join join (Ok (Stopped s at))
  passes_stop s at e =
      let is = stopped_is s at (look area place) e in
      stays (Ok (Stopped s at)) (sym (step_found area place room _ is ∙ stop_answered room _ at)) tt (stop_keeps join _ at)

  pub passes_refused : (e : Refusal) → refusal.says e ≡ sizes (look area place) → Stepped area place join join (Err e)
  passes_refused e h =
      stays (Err e)
      (sym
      (step_looks area place room
      ∙ ap (λ (a : Answer rfc.Found). and_then a (room_for room)) (says_is e (look area place) h)
      ∙ says_then (room_for room) e))
      tt (says_keeps join e)

  -- a call that finds what a call at another place finds answers what that answers
  pub passes_on : (at : ℕ) {join' : List ℕ} {r : Result Step Refusal} → look area place ≡ look area at → Stepped area at join join' r
      → Stepped area place join join' r
  passes_on at e w = rw (step_alike area place at room e) w

-- an option of one part that stands in an area shows its value
pub shown_stands : {area : List ℕ} {code : ℕ} {v : List ℕ} {n at : ℕ} → Stands area code v n at → n ≤ 1 → (join : List ℕ)
    → shown n (length v) at area join ≡ v
shown_stands {area} {code} {v} {n} {at} s h join =
    shown_one n (length v) at area join h (omega (arith, s.fits))
    ∙ part_there area (at - length v) (length v) (omega (arith, s.within, s.fits))
    ∙ sym (s.one (omega (arith, s.some)))

-- an option that a call found, by its numbers
module _ (area : List ℕ) (place : ℕ) (f : found.Found) (e : given (Found f) ≡ sizes (look area place)) where
  abbrev value : List ℕ
  value = (found_is f (look area place) e).0

  is_found : look area place ≡ given (option f.code value f.parts f.place)
  is_found = (found_is f (look area place) e).1

  long : length value ≡ f.len
  long = (found_is f (look area place) e).2

  stands : Stands area f.code value f.parts f.place
  stands = look_stands area f.code value f.parts f.place place is_found

  -- its answer is the call's
  answered : {join join' : List ℕ} → Walked area join join' (Ok (Found f)) (room_for (length join) (option f.code value f.parts f.place))
      → Stepped area place join join' (Ok (Found f))
  answered {join} w = rw (step_found area place (length join) _ is_found) w

  pub passes_alone : {join : List ℕ} → f.parts ≡ 1 → Stepped area place join join (Ok (Found f))
  passes_alone {join} one =
      let s = stands in
      let shows = ap (λ (n : ℕ). shown f.parts n f.place area join) (sym long) ∙ shown_stands s (omega arith) join in
      answered
      (stays (Ok (Found f))
      (ap (λ (x : List ℕ). given (option f.code x f.parts f.place)) shows
      ∙ sym (one_answered (length join) f.code value f.parts f.place (omega arith)))
      (λ _. omega (arith, s.fits, long), s.within, λ k. absurd (let f : ⊥ = omega arith in f))
      (one_keeps join f.code _ f.parts f.place (omega arith)))

-- a stop, or an option of one part
pub passes_done : (area join : List ℕ) (place : ℕ) (s : Step) → given s ≡ sizes (look area place) → OnePart s
    → Stepped area place join join (Ok s)
passes_done area join place (Stopped s at) e one = passes_stop area join place s at e
passes_done area join place (Found f) e one = passes_alone area place f e one

-- an option of several parts that a call found where it begins
module _ {area : List ℕ} {at : ℕ} (c : Continues area at) (f : found.Found) (e : given (Found f) ≡ sizes (look area at)) where
  -- its numbers: it has two parts or more, and they stand from the place on
  numbers : (r : Option Run) → r ≡ size_of (more c.starts)
      → (get_or area at 0 ≡ f.code) × (2 ≤ f.parts) × (f.place ≡ at + (2 * f.parts + f.len))
  numbers None w =
      let f : given (Stopped CutContinuation (behind area at)) ≡ given (Found f) = starts_cut c.starts w ∙ sym e in
      let z : ◌≡◌ {A = ℕ} 0 1 = cc in
      absurd (omega arith)
  numbers (Some w) h =
      let both : given (Found (whole c.starts w h)) ≡ given (Found f) = starts_whole c.starts w h ∙ sym e in
      let same : whole c.starts w h ≡ f = cc in
      let a : w.parts + 1 ≡ f.parts = ap (λ (g : found.Found). g.parts) same in
      let b : get_or area (at + 1) 0 + w.len ≡ f.len = ap (λ (g : found.Found). g.len) same in
      let d : behind area at + 2 * w.parts + w.len ≡ f.place = ap (λ (g : found.Found). g.place) same in
      (ap (λ (g : found.Found). g.code) same, omega (arith, some_further c w h), omega arith)

  are : (get_or area at 0 ≡ f.code) × (2 ≤ f.parts) × (f.place ≡ at + (2 * f.parts + f.len))
  are = numbers (size_of (more c.starts)) refl

  -- so all its parts are the run at the place
  all_parts : further (get_or area at 0) (drop at area) ≡ run f.parts (value area at f e)
  all_parts =
      let start : at ≡ f.place - (2 * f.parts + length (value area at f e)) = omega (arith, are.2, long area at f e) in
      (λ i. further (are.0 i) (drop (start i) area)) ∙ (stands area at f e).parts

  pub parts_to : {room : ℕ} → f.len ≤ room → PartsTo area at f.place room
  parts_to h =
      let v : values_at area at ≡ value area at f e = ap values all_parts in
      record {
        parts = f.parts;
        whole = all_parts ∙ ap (run f.parts) (sym v);
        ends = omega (arith, are.2, long area at f e, ap length v);
        fits = omega (arith, long area at f e, ap length v);
      }

  module _ {join : List ℕ} where
    pub passes_short : length join < f.len → Stepped area at join join (Err (JoinTooShort f.len))
    passes_short g =
        let n = long area at f e in
        let is = many_needs (length join) f.code (value area at f e) f.parts f.place (omega (arith, are.1)) (omega (arith, n)) in
        stays (Err (JoinTooShort f.len))
        (ap (λ (n : ℕ). needs n) (sym n) ∙ sym (step_found area at (length join) _ (is_found area at f e) ∙ is)) tt
        (needs_keeps join f.len)

    pub passes_joined : {join' : List ℕ} → join' ≡ over join 0 (values_at area at) → f.len ≤ length join
        → Stepped area at join join' (Ok (Found f))
    passes_joined {join'} j g =
        let v : List ℕ = value area at f e in
        let n : length v ≡ f.len = long area at f e in
        let put : join' ≡ over join 0 v = j ∙ ap (over join 0) (ap values all_parts) in
        let fits : 0 + length v ≤ length join = omega arith in
        let size : length join' ≡ length join = ap length put ∙ length_over join 0 v fits in
        let there : take f.len join' ≡ v = (λ i. take (sym n i) (put i)) ∙ shown_over join 0 v fits in
        let is = many_answered (length join) f.code v f.parts f.place (omega (arith, are.1)) (omega arith) in
        answered area at f e
        (record {
          told =
              ap (λ (x : List ℕ). given (option f.code x f.parts f.place))
              (shown_many f.parts f.len f.place area join' (omega (arith, are.1)) ∙ part_there join' 0 f.len (omega arith) ∙ there)
              ∙ sym is;
          inside = (λ _. omega (arith, are.2), (stands area at f e).within, λ _. omega arith);
          kept = put ∙ sym (ap (λ (x : Answer rfc.Found). join_after x join) is ∙ many_joined join f.code v f.parts f.place (omega (arith, are.1)));
        })

-- where the walk goes on is what the definition says of what was answered
pub place_says : (r : Result Step Refusal) (area join : List ℕ) (place : ℕ) → place_of r place ≡ place_after (says r area join) place
place_says (Ok (Stopped s at)) area join place = sym (stop_moves (stop_of s) at place)
place_says (Ok (Found f)) area join place = sym (option_moves f.code _ f.parts f.place place)
place_says (Err e) area join place = sym (says_stays place e)
