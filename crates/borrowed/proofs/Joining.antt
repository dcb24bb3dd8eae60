-- One part joined behind another: what the join buffer holds after each turn of the loop over the parts.
-- Assumes nothing.
use mathlib.Core.Path.{◌≡◌, refl, sym, ap, ◌∙◌}
use Prim.Native.Nat.{ℕ, zero, suc, ◌+◌, ◌-◌, ◌*◌, ◌≤◌, ◌<◌}
use native.Mathlib.Omega.{arith}
use mathlib.Core.List.{List, [], ◌++◌}
use lib.ListN.{length, take, drop, get_or, length-drop}
use lib.Seq.{length-take-le, drop-drop, take-length}
use Rattle.std.specs.Prelude.{Result}
use Rattle.facts.specs.Over.{over}
use Rattle.facts.proofs.Over.{over_nil, over_next, length_over}
use Rattle.rfc.specs.Walk.{further, run}
use Rattle.rfc.specs.Writing.{write_slice}
use Rattle.rfc.proofs.Places.{Next, next_at, run_none}
use Rattle.refusal.specs.declared.Refusal.{Refusal}
use Rattle.encoder.specs.Written.{Wrote}
use Rattle.encoder.proofs.Answers.{put_part}
use Rattle.borrowed.specs.Walked.{PartsTo, behind, values_at}

-- some parts are joined, `to` bytes of values, and those that are left stand from i to the end
pub record Joined (area : List ℕ) (at end : ℕ) (join₀ join : List ℕ) (i to : ℕ) : Type 0 where
  pub left : ℕ
  pub some : to ≤ length (values_at area at)
  pub fits : length (values_at area at) ≤ length join₀
  pub keeps : length join ≡ length join₀
  pub put : join ≡ over join₀ 0 (take to (values_at area at))
  pub rest : further (get_or area at 0) (drop i area) ≡ run left (drop to (values_at area at))
  pub ends : end ≡ i + (2 * left + (length (values_at area at) - to))

pub joined_none : {area : List ℕ} {at end : ℕ} {join₀ : List ℕ} → PartsTo area at end (length join₀) → Joined area at end join₀ join₀ at 0
joined_none {area} {at} {end} {join₀} h =
    record {
      left = h.parts;
      some = omega arith;
      fits = h.fits;
      keeps = refl;
      put = sym (over_nil join₀ 0);
      rest = h.whole;
      ends = omega (arith, h.ends);
    }

module _ {area : List ℕ} {at end : ℕ} {join₀ join : List ℕ} {i to : ℕ} (s : Joined area at end join₀ join i to) where
  abbrev all : List ℕ
  all = values_at area at

  -- where no part is left, all are joined
  none_left : s.left ≡ 0 → to ≡ length all
  none_left z =
      let none : drop to all ≡ [] = run_none (get_or area at 0) (drop i area) _ (s.rest ∙ ap (λ (m : ℕ). run m (drop to all)) z) in
      omega (arith, length-drop to all, ap length none, s.some)

  -- in a turn a whole part stands at i, whose value is the next of them
  module _ (h : i < end) where
    abbrev n : ℕ
    n = get_or area (i + 1) 0

    abbrev later : ℕ
    later = s.left - 1

    some_left : s.left ≡ suc later
    some_left = go s.left refl
      where
        go : (m : ℕ) → s.left ≡ m → s.left ≡ suc later
        go zero z = let e = none_left z in absurd (omega (arith, s.ends))
        go (suc m) z = omega arith

    next-part : Next area i (get_or area at 0) later (drop to all)
    next-part = next_at area i (get_or area at 0) later (drop to all) (s.rest ∙ ap (λ (m : ℕ). run m (drop to all)) some_left)

    -- it lies in the area, and its value fits behind what is joined
    value_fits : to + n ≤ length all
    value_fits = omega (arith, next-part.enough, length-drop to all, s.some)

    pub part_fits : (behind area i ≤ length area) × (to + n ≤ length join)
    part_fits = (next-part.within, omega (arith, value_fits, s.fits, s.keeps))

    -- its value is written into just its part of the join buffer
    pub joined_more : {part : List ℕ} {r : Result ℕ Refusal}
        → Wrote (write_slice (take (i + 2 + n - (i + 2)) (drop (i + 2) area)) (take (to + n - to) (drop to join)) 0)
        (take (to + n - to) (drop to join)) part 0 r
        → Joined area at end join₀ (take to join ++ (part ++ drop (to + n - to) (drop to join))) (behind area i) (to + n)
    joined_more w =
        let p : List ℕ = take n (drop (i + 2) area) in
        let t = next-part in
        let f = part_fits in
        let lp : length p ≡ n = length-take-le n (drop (i + 2) area) (omega (arith, f.0, length-drop (i + 2) area)) in
        let a : i + 2 + n - (i + 2) ≡ n = omega arith in
        let b : to + n - to ≡ n = omega arith in
        let put = put_part p join to (to + n - to) (lp ∙ sym b) (omega (arith, f.1)) (rw a at w) in
        let z : to ≡ 0 + to = omega arith in
        record {
          left = later;
          some = value_fits;
          fits = s.fits;
          keeps = ap length put ∙ length_over join to p (omega (arith, f.1, lp)) ∙ s.keeps;
          put =
              put ∙ (λ j. over (s.put j) (z j) p)
              ∙ over_next join₀ 0 all p to (omega (arith, s.some, s.fits)) s.some (ap (λ (m : ℕ). take m (drop to all)) lp ∙ t.here)
              ∙ ap (λ (m : ℕ). over join₀ 0 (take (to + m) all)) lp;
          rest = t.there ∙ ap (run later) (drop-drop n to all);
          ends = omega (arith, s.ends, some_left, value_fits);
        }

    -- an empty part is passed
    pub joined_empty : n ≡ 0 → Joined area at end join₀ join (i + 2) to
    joined_empty z =
        let t = next-part in
        let a : i + 2 ≡ behind area i = omega (arith, z) in
        record {
          left = later;
          some = s.some;
          fits = s.fits;
          keeps = s.keeps;
          put = s.put;
          rest =
              ap (λ (m : ℕ). further (get_or area at 0) (drop m area)) a ∙ t.there
              ∙ ap (λ (m : ℕ). run later (drop m (drop to all))) z;
          ends = omega (arith, s.ends, some_left);
        }

  pub joined_all : end ≤ i → join ≡ over join₀ 0 all
  joined_all h =
      let e : to ≡ length all = omega (arith, s.ends, s.some) in
      s.put ∙ ap (λ (m : ℕ). over join₀ 0 (take m all)) e ∙ ap (over join₀ 0) (take-length all)
