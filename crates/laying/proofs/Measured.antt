-- All rows are measured: after a refusal nothing is done, and else the first row that is refused decides, or their bytes are counted.
-- Assumes nothing.
use mathlib.Core.Path.{◌≡◌, refl, ap, ◌∙◌}
use Prim.Native.Nat.{ℕ, zero, suc, ◌+◌, ◌≤◌, ◌<◌, min}
use mathlib.Core.List.{List, [], ◌∷◌, foldl}
use native.Mathlib.Omega.{arith}
use native.Mathlib.Decide.{dec_le}
use lib.ListN.{length, length-append}
use Rattle.std.specs.Prelude.{Some, is_some}
use Rattle.std.proofs.Common.{inl, inr}
use Rattle.rfc.specs.Numbers.{most_value, Check, check, first_refusal}
use Rattle.rfc.specs.Strung.{RowMade, all_checks, all_bytes}
use Rattle.rfc.proofs.Numbers.{Refuses, here, later, Clear, done, is_first, is_none, Numbered, refuses_front, refuses_behind, clear_both}
use Rattle.rfc.proofs.Strung.{checks_none, checks_more, bytes_none, bytes_more}
use Rattle.refusal.specs.Told.{refusal_of}
use Rattle.laying.specs.Passes.{refuse, with_len, row_of, gauged, measured, turned, Known, EachKnown}
use Rattle.laying.specs.declared.Pass.{Pass}
use Rattle.laying.proofs.Passes.{Refused, Going, either_way, not_both, measured_refused, measured_bad, measured_full, measured_more, row_bad, row_good, turned_refused}

-- checks whose numbers are not 0, so that 0 says that no check refuses
known_numbered : (cs : List Check) → Known cs → Numbered cs
known_numbered [] k = tt
known_numbered (check test zero ∷ cs) k = omega (arith, k.0.0)
known_numbered (check test (suc n) ∷ cs) k = known_numbered cs k.1

pub known_range : {cs : List Check} {n : ℕ} → Known cs → Refuses cs n → (0 < n) × (n < 256)
known_range k (here e) = k.0
known_range k (later e r) = known_range k.1 r

-- after a refusal
pub none_gauged : (ms : List RowMade) (p : Pass) → Refused p → foldl gauged p ms ≡ p
none_gauged [] p h = refl
none_gauged (m ∷ ms) p h = ap (λ (q : Pass). foldl gauged q ms) (measured_refused p (row_of m) h) ∙ none_gauged ms p h

-- from one state to another the rows are measured. One is refused; or none is, and n bytes are counted, which is as many as the value has,
-- or both are too many
pub data Measures (ms : List RowMade) (p q : Pass) : Type 0 where
  bad : (k : ℕ) → k < 256 → Refuses (all_checks ms) k → q.refusal ≡ Some (refusal_of k) → Measures ms p q
  good : Clear (all_checks ms) → (n : ℕ) → q ≡ with_len n p
      → min (suc most_value) n ≡ min (suc most_value) (p.len + length (all_bytes ms)) → Measures ms p q

abbrev Told : List RowMade → Type 0
Told ms = (p : Pass) → Going p → Measures ms p (foldl gauged p ms)

-- one row more, in front
module _ (m : RowMade) (ms : List RowMade) (known : Known m.checks) (told : Told ms) (p : Pass) (h : Going p) where
  abbrev number : ℕ
  number = first_refusal m.checks

  sum : length (all_bytes (m ∷ ms)) ≡ length m.bytes + length (all_bytes ms)
  sum = ap length (bytes_more m ms) ∙ length-append m.bytes (all_bytes ms)

  -- the row is good, and n bytes are counted with it
  module _ (g : number ≤ 0) (n : ℕ) where
    clear : Clear m.checks
    clear = is_none m.checks (known_numbered m.checks known) refl g

    in-front : (q : Pass) → min (suc most_value) (n + length (all_bytes ms)) ≡ min (suc most_value) (p.len + length (all_bytes (m ∷ ms)))
        → Measures ms (with_len n p) q → Measures (m ∷ ms) p q
    in-front q c (bad k b r t) = bad k b (rw (checks_more m ms) (refuses_behind clear r)) t
    in-front q c (good r k is c') = good (rw (checks_more m ms) (clear_both clear r)) k is (c' ∙ c)

    counted_on : gauged p m ≡ with_len n p
        → min (suc most_value) (n + length (all_bytes ms)) ≡ min (suc most_value) (p.len + length (all_bytes (m ∷ ms)))
        → Measures (m ∷ ms) p (foldl gauged (gauged p m) ms)
    counted_on e c = rw e (in-front _ c (told (with_len n p) h))

  refuses_here : 0 < number → Measures (m ∷ ms) p (foldl gauged (gauged p m) ms)
  refuses_here g =
      let r = is_first m.checks refl g in
      let e = refusal_of number in
      rw (row_bad m number refl g, measured_bad p h e, none_gauged ms (refuse e p) refl)
      (bad number (known_range known r).1 (rw (checks_more m ms) (refuses_front (all_checks ms) r)) refl)

  by_row : Measures (m ∷ ms) p (foldl gauged (gauged p m) ms)
  by_row = go (dec_le number 0) (dec_le p.len most_value)
    where
      go : Dec (number ≤ 0) → Dec (p.len ≤ most_value) → Measures (m ∷ ms) p (foldl gauged (gauged p m) ms)
      go (yes g) (yes f) =
          counted_on g (p.len + length m.bytes)
          (ap (measured p) (row_good m (length m.bytes) g refl) ∙ measured_more p h (length m.bytes) f) (omega (arith, sum))
      go (yes g) (no f) =
          counted_on g p.len
          (ap (measured p) (row_good m (length m.bytes) g refl) ∙ measured_full p h (length m.bytes) (omega arith)) (omega (arith, sum))
      go (no g) f = refuses_here (omega arith)

pub all_measured : (ms : List RowMade) → EachKnown ms → Told ms
all_measured [] known p h = good (rw checks_none done) p.len refl (omega (arith, ap length bytes_none))
all_measured (m ∷ ms) known p h = by_row m ms known.0 (all_measured ms known.1) p h

-- where nothing is refused behind the first pass, no row is
module _ (ms : List RowMade) (known : EachKnown ms) (p : Pass) (n : ℕ) (g : Going (turned (foldl gauged p ms) n)) where
  measured_going : Going (foldl gauged p ms)
  measured_going =
      elim (either_way (foldl gauged p ms)) [
        | inl h ↦ absurd (not_both (foldl gauged p ms) h (rw (turned_refused (foldl gauged p ms) n h) at g))
        | inr h ↦ h
      ]

  start_going : Going p
  start_going = elim (either_way p) [ inl h ↦ absurd (not_both p h (rw (none_gauged ms p h) at measured_going)) | inr h ↦ h ]

  by_measures : (q : Pass) → Going q → Measures ms p q → Clear (all_checks ms)
  by_measures q h (bad k b r t) = absurd (not_both q (ap is_some t) h)
  by_measures q h (good c k is e) = c

  pub all_clear : Clear (all_checks ms)
  all_clear = by_measures (foldl gauged p ms) measured_going (all_measured ms known p start_going)
