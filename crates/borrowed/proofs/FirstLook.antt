-- A first look at a place, case by case, and what it tells of a step there.
-- Assumes nothing.
use mathlib.Core.Path.{◌≡◌, refl, ap, ◌∙◌}
use Prim.Native.Nat.{ℕ, ◌+◌, ◌≤◌, ◌<◌}
use native.Mathlib.Omega.{arith}
use mathlib.Core.List.{List}
use mathlib.Core.Bool.{Bool, true, false, cond}
use lib.ListN.{length, get_or}
use lib.Dec.{eqb, leb}
use borrow.Author.Tests.{eqb-true, eq-eqb, ne_eqb, le-leb, lt-leb}
use Rattle.std.specs.Prelude.{Option, Some, None, Ok}
use Rattle.rfc.specs.Numbers.{Answer, given, refused, needs, pad_code, most_bytes}
use Rattle.rfc.specs.Walk.{look}
use Rattle.rfc.proofs.Walk.{look_2}
use Rattle.borrowed.specs.Walked.{sizes, size_of, Stepped, Continues}
use Rattle.borrowed.specs.FirstLook.{told_first, first_of}
use Rattle.borrowed.specs.declared.answer.Stop.TheVariants.{Out, End, CutLength, CutValue, CutContinuation}
use Rattle.borrowed.specs.declared.answer.Found as found
use Rattle.borrowed.specs.declared.answer.Step.{Step}
use Rattle.borrowed.specs.declared.answer.Step.TheVariants.{Stopped, Found}
use Rattle.borrowed.specs.declared.answer.First.{First}
use Rattle.borrowed.specs.declared.answer.First.TheVariants.{Alone, Ends, Several, Other}
use Rattle.borrowed.specs.declared.parts.Run.{Run}
use Rattle.borrowed.proofs.Answers.{more, starts_cut, whole, starts_whole, some_further, passes_stop, passes_alone}

-- an option of two parts or more
many : (f : found.Found) → 1 < f.parts → Several ≡ told_first (given (Found f))
many f h = rw (ne_eqb f.parts 1 (λ z. omega arith))

module _ (area : List ℕ) (place : ℕ) where
  -- nothing is told: no two bytes stand there, or a Pad, or the call is refused
  pub first_short : length area < place + 2 → Other ≡ first_of area place
  unfolding first_of
  first_short h = rw (lt-leb (place + 2) (length area) h)

  pub first_pad : get_or area place 0 ≡ pad_code → Other ≡ first_of area place
  unfolding first_of
  first_pad e = go (leb (place + 2) (length area))
    where
      go : (t : Bool) → Other ≡ cond t (cond (eqb (get_or area place 0) pad_code) Other (told_first (sizes (look area place)))) Other
      go true = rw (eq-eqb (get_or area place 0) pad_code e)
      go false = refl

  pub first_long : most_bytes < length area → Other ≡ first_of area place
  unfolding first_of
  first_long h = go (leb (place + 2) (length area)) (eqb (get_or area place 0) pad_code)
    where
      go : (t u : Bool) → Other ≡ cond t (cond u Other (told_first (sizes (look area place)))) Other
      go true true = refl
      go true false = rw (look_2 area place h)
      go false u = refl

  -- else it is told of what is found
  pub first_told : place + 2 ≤ length area → (get_or area place 0 ≡ pad_code → ⊥) → {s : Answer Step} → s ≡ sizes (look area place)
      → told_first s ≡ first_of area place
  unfolding first_of
  first_told h n e = simp (le-leb (place + 2) (length area) h, ne_eqb (get_or area place 0) pad_code n) (ap told_first e)

  -- a further part follows: it is cut, or there are some
  pub first_several : Continues area place → Several ≡ first_of area place
  first_several c = go (size_of (more c.starts)) refl ∙ first_told (omega (arith, c.starts.within)) c.starts.other refl
    where
      go : (r : Option Run) → r ≡ size_of (more c.starts) → Several ≡ told_first (sizes (look area place))
      go None e = ap told_first (starts_cut c.starts e)
      go (Some w) e =
          many (whole c.starts w e) (omega (arith, some_further c w e)) ∙ ap told_first (starts_whole c.starts w e)

-- what is told of a step is the step
told_alone : (f : found.Found) (s : Answer Step) → Alone f ≡ told_first s → (given (Found f) ≡ s) × (f.parts ≡ 1)
told_alone f (given (Found g)) e = go (eqb g.parts 1) refl e
  where
    go : (t : Bool) → eqb g.parts 1 ≡ t → Alone f ≡ cond t (Alone g) Several → (given (Found f) ≡ given (Found g)) × (f.parts ≡ 1)
    go true q w =
        let same : f ≡ g = cc in (ap (λ (h : found.Found). given (Found h)) same, ap (λ (h : found.Found). h.parts) same ∙ eqb-true g.parts 1 q)
    go false q w = (cc, cc)
told_alone f (given (Stopped Out p)) e = (cc, cc)
told_alone f (given (Stopped End p)) e = (cc, cc)
told_alone f (given (Stopped CutLength p)) e = (cc, cc)
told_alone f (given (Stopped CutValue p)) e = (cc, cc)
told_alone f (given (Stopped CutContinuation p)) e = (cc, cc)
told_alone f (refused k) e = (cc, cc)
told_alone f (needs n) e = (cc, cc)

told_end : (at : ℕ) (s : Answer Step) → Ends at ≡ told_first s → given (Stopped End at) ≡ s
told_end at (given (Found g)) e = go (eqb g.parts 1) e
  where
    go : (t : Bool) → Ends at ≡ cond t (Alone g) Several → given (Stopped End at) ≡ given (Found g)
    go true w = cc
    go false w = cc
told_end at (given (Stopped Out p)) e = cc
told_end at (given (Stopped End p)) e = cc
told_end at (given (Stopped CutLength p)) e = cc
told_end at (given (Stopped CutValue p)) e = cc
told_end at (given (Stopped CutContinuation p)) e = cc
told_end at (refused k) e = cc
told_end at (needs n) e = cc

-- so a step there answers it, and leaves the join buffer
module _ (area join : List ℕ) (place : ℕ) where
  -- where something is told, it is of what is found
  of_found : {f : First} → (f ≡ Other → ⊥) → f ≡ first_of area place → f ≡ told_first (sizes (look area place))
  unfolding first_of
  of_found {f} n = go (leb (place + 2) (length area)) (eqb (get_or area place 0) pad_code)
    where
      go : (t u : Bool) → f ≡ cond t (cond u Other (told_first (sizes (look area place)))) Other → f ≡ told_first (sizes (look area place))
      go true true e = absurd (n e)
      go true false e = e
      go false u e = absurd (n e)

  pub steps_alone : (f : found.Found) → Alone f ≡ first_of area place → Stepped area place join join (Ok (Found f))
  steps_alone f e =
      let is = told_alone f _ (of_found (λ z. let o : ◌≡◌ {A = ℕ} 0 1 = cc in absurd (omega arith)) e) in
      passes_alone area place f is.0 is.1

  pub steps_end : (at : ℕ) → Ends at ≡ first_of area place → Stepped area place join join (Ok (Stopped End at))
  steps_end at e =
      passes_stop area join place End at (told_end at _ (of_found (λ z. let o : ◌≡◌ {A = ℕ} 0 1 = cc in absurd (omega arith)) e))
