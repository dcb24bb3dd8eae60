-- Demand 3 over calls of one option each: whatever the contracts allow is what the definitions say of the whole list.
-- Assumes nothing.
use mathlib.Core.Path.{◌≡◌, refl, sym, ap, ◌∙◌, subst}
use Prim.Native.Nat.{ℕ, ◌+◌, ◌≤◌}
use native.Mathlib.Omega.{arith}
use mathlib.Core.List.{List, [], ◌∷◌, ◌++◌, append-nil}
use lib.ListN.{length, drop, length-append, length-drop}
use Rattle.facts.proofs.Over.{from_over}
use Rattle.rfc.specs.Numbers.{Answer, given, refused, most_bytes, most_value}
use Rattle.rfc.specs.Walk as walk
use Rattle.rfc.specs.Walk.{step, join_after}
use Rattle.rfc.specs.Writing.{Write, answer_to, close}
use Rattle.rfc.proofs.Writing.{never_needs}
use Rattle.rfc.specs.Lists.{Opt, Valid, encode_all, Made, finished, write_all}
use Rattle.rfc.proofs.Lists.{all_goes_on, all_ends_at, all_closes, all_not_closed, writes_all, at-end, First, at_option}
use Rattle.rfc.proofs.Walk.{length_joined}
use Rattle.std.specs.Prelude.{Result, Ok, Err}
use Rattle.refusal.specs.declared.Refusal.{Refusal}
use Rattle.refusal.specs.Told.{says}
use Rattle.refusal.proofs.Told.{says_as, says_given}
use Rattle.encoder.specs.Written.{Wrote}
use Rattle.borrowed.specs.Walked.{stop_of, Stepped}
use Rattle.borrowed.specs.declared.answer.Found as option
use Rattle.borrowed.specs.declared.answer.Step.TheVariants.{Stopped, Found}
use Rattle.borrowed.specs.declared.answer.Stop.{Stop}
use Rattle.borrowed.specs.declared.answer.Stop.TheVariants.{Out, End, CutLength, CutValue, CutContinuation}
use Rattle.calls.proofs.Made.{made_same}
use Rattle.calls.specs.Calls.{WritesAll, closes, goes_on, ends, StepsTo, none, one, found_by, ListsBack, CallsRoundTrip}

-- what the last call of a run of writes says of the run
abbrev made : Result ℕ Refusal → List ℕ → Answer Made
made (Ok to) room = finished room to
made (Err e) room = says e

-- where a write's refusal ends a run, the run says what the write says
ends_as : (w : Write) (room : List ℕ) (place : ℕ) (run : Answer Made)
    → ((k : ℕ) → answer_to w room place ≡ refused k → run ≡ refused k) → (e : Refusal) → answer_to w room place ≡ says e → run ≡ says e
ends_as w room place run ended =
    says_as (λ (a : Answer ℕ) (b : Answer Made) k len. answer_to w room place ≡ a → run ≡ b)
    ended (λ len h. absurd (never_needs w room place len h))

-- the calls do what `write_all` says
closes_as : (room room' : List ℕ) (place : ℕ) (r : Result ℕ Refusal) → Wrote (close room place) room room' place r
    → write_all [] room place ≡ made r room'
closes_as room room' place (Ok to) w = all_closes room place (sym w.tells) (sym w.left)
closes_as room room' place (Err e) w = ends_as _ room place _ (λ k h. all_not_closed room place h) e (sym w.tells)

does_all : {os : List Opt} {room room' : List ℕ} {place : ℕ} {r : Result ℕ Refusal} → WritesAll os room place room' r
    → write_all os room place ≡ made r room'
does_all (closes w) = closes_as _ _ _ _ w
does_all (goes_on w more) = all_goes_on _ _ _ _ (sym w.tells) (sym w.left) ∙ does_all more
does_all (ends w) = ends_as _ _ _ _ (λ k h. all_ends_at _ _ _ _ h) _ (sym w.tells)

-- so a run that makes something ends with its place, and leaves its room
made_is : (r : Result ℕ Refusal) (room room' : List ℕ) (to : ℕ) → made r room ≡ finished room' to → (r ≡ Ok to) × (room ≡ room')
made_is (Ok at) room room' to e = let m = made_same e in (ap Ok m.1, m.0)
made_is (Err r) room room' to e = absurd (says_given _ r e)

-- what a call found, by its code and its value
module _ {c d n m at to : ℕ} {v w : List ℕ} (e : ◌≡◌ {A = Answer walk.Found} (given (walk.option c v n at)) (given (walk.option d w m to))) where
  same_code : c ≡ d
  same_code = cc

  same_value : v ≡ w
  same_value = cc

-- an option is no stop
option_stop : {A : Type 0} {s : walk.Stop} {c n at to : ℕ} {v : List ℕ}
    → ◌≡◌ {A = Answer walk.Found} (given (walk.option c v n at)) (given (walk.stop s to)) → A
option_stop e = absurd (let z : ◌≡◌ {A = ℕ} 0 1 = cc in omega arith)

-- The walk, over an area where the list's bytes begin at a place
module _ (area rest : List ℕ) (short : length area ≤ most_bytes) where
  -- the calls have come to a place and a join buffer, with these options of the list left
  record Left (os sofar : List Opt) (end at : ℕ) (join : List ℕ) : Type 0 where
    pub left : List Opt
    pub split : os ≡ sofar ++ left
    pub valid : Valid left
    pub within : at ≤ length area
    pub here : drop at area ≡ encode_all left ++ rest
    pub ends_there : at + length (encode_all left) ≡ end
    pub joins : most_value ≤ length join

  -- a call that finds an option there finds the list's first
  module _ {place : ℕ} {join join₁ : List ℕ} (within : place ≤ length area) (joins : most_value ≤ length join) where
    module _ (o : Opt) (os : List Opt) {f : option.Found} (v : Valid (o ∷ os)) (here : drop place area ≡ encode_all (o ∷ os) ++ rest)
        (s : Stepped area place join join₁ (Ok (Found f))) where
      first : First area rest (length join) short joins o os place
      first = at_option area rest (length join) short joins o os place v within here

      the_option : found_by f area join₁ ≡ o
      the_option = let e = s.told ∙ first.finds in λ i. record { code = same_code e i; value = same_value e i }

      the_place : f.place ≡ first.to
      the_place = let e = s.told ∙ first.finds in cc

      joins_on : most_value ≤ length join₁
      joins_on =
          omega (
            arith,
            ap length (s.kept ∙ ap (λ (a : Answer walk.Found). join_after a join) first.finds),
            length_joined join o.code o.value first.parts first.to (omega (arith, v.0.most, joins)),
            joins,
          )

  steps_left : (os : List Opt) {sofar : List Opt} {place at : ℕ} {join join' : List ℕ} → StepsTo area place join sofar at join'
      → Valid os → place ≤ length area → drop place area ≡ encode_all os ++ rest → most_value ≤ length join
      → Left os sofar (place + length (encode_all os)) at join'
  steps_left os none v within here joins =
      record { left = os; split = refl; valid = v; within = within; here = here; ends_there = refl; joins = joins }
  steps_left [] (one s more) v within here joins = option_stop (s.told ∙ at-end area rest _ short joins _ within here)
  steps_left (o ∷ os) (one s more) v within here joins =
      let f = first within joins o os v here s in
      let to = the_place within joins o os v here s in
      let l =
      steps_left os more v.2 (omega (arith, f.within, to)) (ap (λ (k : ℕ). drop k area) to ∙ f.more) (joins_on within joins o os v here s) in
      record {
        left = l.left;
        split = λ i. sym (the_option within joins o os v here s) i ∷ l.split i;
        valid = l.valid;
        within = l.within;
        here = l.here;
        ends_there = omega (arith, l.ends_there, f.ends, to);
        joins = l.joins;
      }

-- the names of the stops: only End is End
is_end : (s : Stop) → stop_of s ≡ walk.end → s ≡ End
is_end Out e = cc
is_end End e = refl
is_end CutLength e = cc
is_end CutValue e = cc
is_end CutContinuation e = cc

-- the area that begins with the list's bytes is listed back
module _ (options : List Opt) (rest area join : List ℕ) (valid : Valid options) (short : length area ≤ most_bytes)
    (joins : most_value ≤ length join) (begins : area ≡ encode_all options ++ rest) where
  module _ {sofar : List Opt} {at : ℕ} {join₁ : List ℕ} (steps : StepsTo area 0 join sofar at join₁) where
    state : Left area rest short options sofar (0 + length (encode_all options)) at join₁
    state = steps_left area rest short options steps valid (omega arith) begins joins

    -- the next call's answer: the next option, or the End with none left
    data Next : Type 0 where
      ended : (sofar ≡ options) → step area at (length join₁) ≡ given (walk.stop walk.end (length (encode_all options))) → Next
      goes : (o : Opt) (os : List Opt) → options ≡ sofar ++ o ∷ os → (parts to : ℕ)
          → step area at (length join₁) ≡ given (walk.option o.code o.value parts to) → Next

    next : Next
    next = go state.left refl
      where
        go : (left : List Opt) → state.left ≡ left → Next
        go [] e =
            let here = state.here ∙ ap (λ (l : List Opt). encode_all l ++ rest) e in
            let place : at + length (encode_all []) ≡ length (encode_all options) =
            ap (λ (l : List Opt). at + length (encode_all l)) (sym e) ∙ state.ends_there ∙ (omega arith) in
            ended (sym (state.split ∙ ap (λ (l : List Opt). sofar ++ l) e ∙ append-nil sofar))
            (at-end area rest (length join₁) short state.joins at state.within here
            ∙ ap (λ (k : ℕ). given (walk.stop walk.end k)) place)
        go (o ∷ os) e =
            let here = state.here ∙ ap (λ (l : List Opt). encode_all l ++ rest) e in
            let f = at_option area rest (length join₁) short state.joins o os at (subst Valid e state.valid) state.within here in
            goes o os (state.split ∙ ap (λ (l : List Opt). sofar ++ l) e) f.parts f.to f.finds

    module _ {join₂ : List ℕ} where
      finds_next : {f : option.Found} → Stepped area at join₁ join₂ (Ok (Found f))
          → (os : List Opt) × (options ≡ sofar ++ found_by f area join₂ ∷ os)
      finds_next {f} s = go next
        where
          go : Next → (os : List Opt) × (options ≡ sofar ++ found_by f area join₂ ∷ os)
          go (ended all e) = option_stop (s.told ∙ e)
          go (goes o os split n p e) =
              let is = s.told ∙ e in
              (os, split ∙ (λ i. sofar ++ record { code = sym (same_code is) i; value = sym (same_value is) i } ∷ os))

      stops_last : {s : Stop} {to : ℕ} → Stepped area at join₁ join₂ (Ok (Stopped s to))
          → (sofar ≡ options) × (s ≡ End) × (to ≡ length (encode_all options))
      stops_last {s} {to} r = go next
        where
          go : Next → (sofar ≡ options) × (s ≡ End) × (to ≡ length (encode_all options))
          go (ended all e) =
              let f = r.told ∙ e in let is : stop_of s ≡ walk.end = cc in (all, is_end s is, cc)
          go (goes o os split n p e) = option_stop (sym (r.told ∙ e))

      never_refused : {r : Refusal} → Stepped area at join₁ join₂ (Err r) → ⊥
      never_refused {r} s = go next
        where
          go : Next → ⊥
          go (ended all e) = says_given _ r (s.told ∙ e)
          go (goes o os split n p e) = says_given _ r (s.told ∙ e)

  lists_back : ListsBack options (length (encode_all options)) area join
  lists_back =
      record {
        finds = λ steps s. finds_next steps s;
        stops = λ steps s. stops_last steps s;
        refuses = λ steps s. never_refused steps s;
      }

pub calls_round_trip : CallsRoundTrip
calls_round_trip options room room' behind join place r v short fits all joins calls =
    let bytes : List ℕ = encode_all options in
    let rest : List ℕ = drop (place + length bytes) room in
    let is = made_is r room' _ _ (sym (does_all calls) ∙ writes_all options room place v short fits) in
    let there : drop place room' ≡ bytes ++ rest = ap (drop place) is.1 ∙ from_over room place bytes fits in
    record {
      told = is.0;
      left = is.1;
      walked = lists_back options behind (bytes ++ behind) join v all joins refl;
      in_the_room =
          lists_back options rest (drop place room') join v
          (omega (arith, ap length there, length-append bytes rest, length-drop (place + length bytes) room)) joins there;
    }
