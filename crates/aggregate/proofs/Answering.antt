-- What is answered for a code, by what was counted of it.
-- Assumes nothing.
use Prim.Native.Nat.{ℕ, ◌+◌, ◌-◌, ◌≤◌, ◌<◌}
use mathlib.Core.Path.{◌≡◌, sym, ap, ◌∙◌}
use native.Mathlib.Omega.{arith}
use mathlib.Core.List.{List, [], ◌∷◌}
use lib.ListN.{length, take, drop}
use Rattle.std.specs.Prelude.{Result, Ok, Err}
use Rattle.facts.specs.Over.{over}
use Rattle.facts.proofs.Over.{length_over, over_nil, shown_over}
use Rattle.rfc.specs.Numbers.{Answer, given, needs}
use Rattle.rfc.specs.Walk.{Found, option, out, room_for, join_after}
use Rattle.rfc.specs.Portions.{Portion, of_code, joined_value}
use Rattle.rfc.specs.Aggregate.{fields_of, aggregate, behind_last, option_from, option_of}
use Rattle.rfc.proofs.Walk.{stop_answered, stop_keeps, needs_keeps, one_answered, one_keeps, many_answered, many_joined, many_needs}
use Rattle.rfc.proofs.Sizes.{joined_one}
use Rattle.rfc.proofs.OfCode.{behind-last, last_within, option_none, option_some, option-of}
use Rattle.rfc.proofs.Standing.{AllInPlace, code_in_place, all_in_place}
use Rattle.borrowed.specs.Walked.{Walked}
use Rattle.borrowed.specs.declared.answer.Stop.TheVariants.{Out}
use Rattle.borrowed.specs.declared.answer.Step.{Step}
use Rattle.borrowed.specs.declared.answer.Step.TheVariants as step
use Rattle.refusal.specs.declared.Refusal.{Refusal}
use Rattle.refusal.specs.declared.Refusal.TheVariants.{JoinTooShort}
use Rattle.borrowed.proofs.Shown.{part_there, shown_one, shown_many}
use Rattle.aggregate.specs.Tallies.{none, tallied}
use Rattle.aggregate.specs.declared.tally.Tally.{Tally}
use Rattle.aggregate.proofs.Gathering.{Amounts, amounts}

-- an option by what was counted of its code
abbrev found_as : ℕ → Tally → Result Step Refusal
found_as code t = Ok (step.Found (record { code = code; parts = t.parts; len = t.len; place = t.place }))

-- the option that they are, by these numbers
found : (code : ℕ) {t : Tally} (p : Portion) (ps : List Portion) → Amounts t (p ∷ ps) → (v : List ℕ) → v ≡ joined_value (p ∷ ps)
    → option code v t.parts t.place ≡ option code (joined_value (p ∷ ps)) (length (p ∷ ps)) (behind_last p ps)
found code p ps a v e = λ i. option code (e i) (a.parts i) ((a.place ∙ sym (behind-last p ps)) i)

-- an answer for the parts of a code, from a join buffer to a join buffer
module _ (message : List ℕ) (code : ℕ) (join : List ℕ) where
  abbrev Answers : List Portion → List ℕ → Result Step Refusal → Type 0
  Answers ps join' r = Walked message join join' r (room_for (length join) (option_from code ps))

  no_part : {t : Tally} (ps : List Portion) → Amounts t ps → t.parts ≡ 0 → Answers ps join (Ok (step.Stopped Out 0))
  no_part [] a z =
      let is = ap (room_for (length join)) (option_none code) ∙ stop_answered (length join) out 0 in
      record { told = sym is; inside = tt; kept = sym (ap (λ (x : Answer Found). join_after x join) is ∙ stop_keeps join out 0) }
  no_part (p ∷ ps) a z = absurd (let f : ⊥ = omega (arith, a.parts) in f)

  too_long : {t : Tally} (ps : List Portion) → Amounts t ps → 1 < t.parts → length join < t.len → Answers ps join (Err (JoinTooShort t.len))
  too_long [] a h g = absurd (let f : ⊥ = omega (arith, a.parts) in f)
  too_long (p ∷ ps) a h g =
      let v : List ℕ = joined_value (p ∷ ps) in
      let is = ap (room_for (length join)) (option_some code p ps)
      ∙ many_needs (length join) code v (length (p ∷ ps)) (behind_last p ps) (omega (arith, a.parts)) (omega (arith, a.len)) in
      record {
        told = ap (λ (n : ℕ). needs n) a.len ∙ sym is;
        inside = tt;
        kept = sym (ap (λ (x : Answer Found). join_after x join) is ∙ needs_keeps join (length v));
      }

  one_part : {t : Tally} (ps : List Portion) → AllInPlace message ps → Amounts t ps → t.parts ≡ 1
      → Answers ps join (found_as code t)
  one_part [] s a h = absurd (let f : ⊥ = omega (arith, a.parts) in f)
  one_part (p ∷ q ∷ ps) s a h = absurd (let f : ⊥ = omega (arith, a.parts) in f)
  one_part {t} (p ∷ []) s a h =
      let value : joined_value (p ∷ []) ≡ p.value = joined_one p in
      let len : t.len ≡ length p.value = a.len ∙ ap length value in
      let fits : t.len ≤ t.place = omega (arith, len, a.place, s.0.fits) in
      let within : t.place ≤ length message = omega (arith, a.place, s.0.within) in
      let is = ap (room_for (length join)) (option_some code p [])
      ∙ one_answered (length join) code (joined_value (p ∷ [])) 1 (behind_last p []) (omega arith) in
      let shows = shown_one t.parts t.len t.place message join (omega arith) fits
      ∙ part_there message (t.place - t.len) t.len (omega arith)
      ∙ (λ i. take (len i) (drop (a.place i - len i) message))
      ∙ s.0.value
      ∙ sym value in
      record {
        told = ap given (found code p [] a _ shows) ∙ sym is;
        inside = ((λ _. fits), within, λ k. absurd (let f : ⊥ = omega arith in f));
        kept = sym (ap (λ (x : Answer Found). join_after x join) is ∙ one_keeps join code _ 1 _ (omega arith));
      }

  many_parts : {t : Tally} (ps : List Portion) → AllInPlace message ps → Amounts t ps → 1 < t.parts → t.len ≤ length join → {join' : List ℕ}
      → join' ≡ over join 0 (joined_value ps) → Answers ps join' (found_as code t)
  many_parts [] s a h g j = absurd (let f : ⊥ = omega (arith, a.parts) in f)
  many_parts {t} (p ∷ ps) s a h g {join'} j =
      let v : List ℕ = joined_value (p ∷ ps) in
      let fits : 0 + length v ≤ length join = omega (arith, a.len) in
      let size : length join' ≡ length join = ap length j ∙ length_over join 0 v fits in
      let there : take t.len join' ≡ v = (λ i. take (a.len i) (j i)) ∙ shown_over join 0 v fits in
      let is = ap (room_for (length join)) (option_some code p ps)
      ∙ many_answered (length join) code v (length (p ∷ ps)) (behind_last p ps) (omega (arith, a.parts)) (omega arith) in
      let shows = shown_many t.parts t.len t.place message join' h ∙ part_there join' 0 t.len (omega arith) ∙ there in
      record {
        told = ap given (found code p ps a _ shows) ∙ sym is;
        inside = ((λ k. absurd (let f : ⊥ = omega arith in f)), omega (arith, a.place, last_within p ps s), λ _. omega arith);
        kept = j ∙ sym (ap (λ (x : Answer Found). join_after x join) is ∙ many_joined join code v _ _ (omega (arith, a.parts)));
      }

-- so of a message
module _ (message : List ℕ) (code : ℕ) (join : List ℕ) {t : Tally} (e : t ≡ tallied code none (aggregate (fields_of message))) where
  abbrev of : List Portion
  of = of_code code (aggregate (fields_of message))

  abbrev Is : List ℕ → Result Step Refusal → Type 0
  Is join' r = Walked message join join' r (option_of (fields_of message) code (length join))

  are : Amounts t of
  are = amounts code (aggregate (fields_of message)) e

  in_place : AllInPlace message of
  in_place = code_in_place message code _ (all_in_place message)

  -- the room that its value takes
  pub value_fits : t.len ≤ length join → length (joined_value of) ≤ length join
  value_fits h = omega (arith, are.len)

  pub answers_none : t.parts ≡ 0 → Is join (Ok (step.Stopped Out 0))
  answers_none h = rw (option-of (fields_of message) code (length join)) (no_part message code join of are h)

  pub answers_needs : 1 < t.parts → length join < t.len → Is join (Err (JoinTooShort t.len))
  answers_needs h g = rw (option-of (fields_of message) code (length join)) (too_long message code join of are h g)

  pub answers_one : t.parts ≡ 1 → Is join (found_as code t)
  answers_one h = rw (option-of (fields_of message) code (length join)) (one_part message code join of in_place are h)

  pub answers_many : 1 < t.parts → t.len ≤ length join → {join' : List ℕ} → join' ≡ over join 0 (joined_value of)
      → Is join' (found_as code t)
  answers_many h g j = rw (option-of (fields_of message) code (length join)) (many_parts message code join of in_place are h g j)

  -- values with no byte join nothing
  pub answers_empty : 1 < t.parts → t.len ≤ 0 → Is join (found_as code t)
  answers_empty h z = answers_many h (omega arith) (sym (nothing (joined_value of) (omega (arith, are.len))))
    where
      nothing : (v : List ℕ) → length v ≤ 0 → over join 0 v ≡ join
      nothing [] g = over_nil join 0
      nothing (b ∷ v) g = absurd (let f : ⊥ = omega arith in f)
