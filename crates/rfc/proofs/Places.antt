-- The laws of `Walk.antt` at a place of an area: what the tests of code at an index say of the walk from there, and that a stop or an
-- option which the walk finds stands in the area.
-- Assumes nothing.
use mathlib.Core.Path.{◌≡◌, refl, sym, ap, ◌∙◌, subst}
use Prim.Native.Nat.{ℕ, suc, zero, ◌+◌, ◌-◌, ◌*◌, ◌≤◌, ◌<◌}
use native.Mathlib.Omega.{arith}
use native.Mathlib.Numerals.{add-one, add-two}
use mathlib.Core.List.{List, [], ◌∷◌, ◌++◌}
use lib.ListN.{length, take, drop, get_or, length-drop, length-append, drop_of_length-le, take-append-drop}
use lib.Seq.{drop-cons, drop-drop, take-append_seam, drop-append_seam, length-take-le, take-length}
use native.Mathlib.Decide.{dec_le, dec_lt, ℕ_discrete}
use Rattle.rfc.specs.Numbers.{given, pad_code, end_code, most_bytes}
use Rattle.rfc.specs.Walk.{Stop, out, end, cut_length, cut_value, Found, stop, option, Run, cut, run, extend, further, joined, walk, room_for, look, step}
use Rattle.rfc.specs.Lists.{Bytes}
use Rattle.rfc.proofs.Bytes.{byte_below, bytes_drop, bytes_take, bytes_joined}
use Rattle.rfc.proofs.Finding.{lies, Halts, at-end, Finds, finds}
use Rattle.rfc.proofs.Walk.{look_walked, step_walks, stop_answered, answered, further_none, further_other, further_no_length, further_no_value, further_more, walk_out, walk_pad, walk_end, walk_code, behind_none, behind_short, behind_whole}

module _ (area : List ℕ) (i : ℕ) where
  pub drop_one : i < length area → drop i area ≡ get_or area i 0 ∷ drop (i + 1) area
  drop_one h = rw (add-one, drop-cons area i 0)

  pub drop_two : i + 2 ≤ length area → drop i area ≡ get_or area i 0 ∷ get_or area (i + 1) 0 ∷ drop (i + 2) area
  drop_two h =
      let a : i < length area = omega arith in
      let b : suc i < length area = omega arith in
      rw (add-one, add-two, drop-cons area i 0, drop-cons area (suc i) 0)

  pub drop_last : i < length area → length area - i < 2 → drop i area ≡ get_or area i 0 ∷ []
  drop_last h g = drop_one h ∙ ap (λ (l : List ℕ). get_or area i 0 ∷ l) (drop_of_length-le area {i = i + 1} (omega arith))

  pub rest_length : length (drop (i + 2) area) ≡ length area - (i + 2)
  rest_length = length-drop (i + 2) area

  two : i + 1 + 1 ≡ i + 2
  two = omega arith

  -- the walk
  pub out_at : length area ≤ i → walk i (drop i area) ≡ stop out i
  out_at h = rw (drop_of_length-le area h) (walk_out i)

  pub pad_at : i < length area → get_or area i 0 ≡ pad_code → walk i (drop i area) ≡ walk (i + 1) (drop (i + 1) area)
  pad_at h z = ap (walk i) (drop_one h) ∙ walk_pad i _ _ z

  pub end_at : i < length area → get_or area i 0 ≡ end_code → walk i (drop i area) ≡ stop end (i + 1)
  end_at h e = ap (walk i) (drop_one h) ∙ walk_end i _ _ e

  module _ (h : i < length area) (z : get_or area i 0 ≡ pad_code → ⊥) (e : get_or area i 0 ≡ end_code → ⊥) where
    pub cut_length_at : length area - i < 2 → walk i (drop i area) ≡ stop cut_length (i + 1)
    cut_length_at g = ap (walk i) (drop_last h g) ∙ walk_code i _ _ z e ∙ behind_none _ _

    pub cut_value_at : i + 2 ≤ length area → length area - (i + 2) < get_or area (i + 1) 0 → walk i (drop i area) ≡ stop cut_value (i + 2)
    cut_value_at g k =
        ap (walk i) (drop_two g) ∙ walk_code i _ _ z e ∙ behind_short _ _ _ _ (omega (arith, rest_length)) ∙ ap (stop cut_value) two

    pub whole_at : i + 2 + get_or area (i + 1) 0 ≤ length area
        → walk i (drop i area)
        ≡ joined (get_or area i 0) (take (get_or area (i + 1) 0) (drop (i + 2) area)) (i + 2 + get_or area (i + 1) 0)
        (further (get_or area i 0) (drop (i + 2 + get_or area (i + 1) 0) area))
    whole_at g =
        let n : ℕ = get_or area (i + 1) 0 in
        ap (walk i) (drop_two (omega arith)) ∙ walk_code i _ _ z e ∙ behind_whole _ _ _ _ (omega (arith, rest_length))
        ∙ (λ j. joined (get_or area i 0) (take n (drop (i + 2) area)) (two j + n) (further (get_or area i 0) (drop-drop n (i + 2) area j)))

  -- the further parts
  module _ (code : ℕ) where
    pub further_none_at : length area ≤ i → further code (drop i area) ≡ run 0 []
    further_none_at h = rw (drop_of_length-le area h) (further_none code)

    pub further_other_at : i < length area → (get_or area i 0 ≡ code → ⊥) → further code (drop i area) ≡ run 0 []
    further_other_at h n = ap (further code) (drop_one h) ∙ further_other code _ _ n

    pub further_no_length_at : i < length area → get_or area i 0 ≡ code → length area - i < 2 → further code (drop i area) ≡ cut
    further_no_length_at h e g = ap (further code) (drop_last h g) ∙ further_no_length code _ e

    pub further_no_value_at : i + 2 ≤ length area → get_or area i 0 ≡ code → length area - (i + 2) < get_or area (i + 1) 0
        → further code (drop i area) ≡ cut
    further_no_value_at g e k = ap (further code) (drop_two g) ∙ further_no_value code _ _ _ e (omega (arith, rest_length))

    pub further_more_at : get_or area i 0 ≡ code → i + 2 + get_or area (i + 1) 0 ≤ length area
        → further code (drop i area)
        ≡ extend (take (get_or area (i + 1) 0) (drop (i + 2) area)) (further code (drop (i + 2 + get_or area (i + 1) 0) area))
    further_more_at e g =
        ap (further code) (drop_two (omega arith)) ∙ further_more code _ _ _ e (omega (arith, rest_length)) ∙ rw drop-drop

-- a contradiction between two runs
cut_run : {A : Type 0} (r : Run) (m : ℕ) (vs : List ℕ) → r ≡ cut → r ≡ run m vs → A
cut_run r m vs p q = let z : ◌≡◌ {A = ℕ} 0 1 = cc in absurd (omega arith)

none_some : {A : Type 0} (r : Run) (m : ℕ) (vs : List ℕ) → r ≡ run 0 [] → r ≡ run (suc m) vs → A
none_some r m vs p q = let z : 0 ≡ suc m = cc in absurd (omega arith)

-- a run that begins with a part of the value v: the rest of it is the rest's run
extend_inv : (v vs : List ℕ) (m : ℕ) (r : Run) → extend v r ≡ run (suc m) vs
    → (length v ≤ length vs) × (take (length v) vs ≡ v) × (r ≡ run m (drop (length v) vs))
unfolding extend
extend_inv v vs m cut e = cut_run cut (suc m) vs refl e
extend_inv v vs m (run k ws) e =
    let p : suc k ≡ suc m = cc in
    let q : k ≡ m = omega arith in
    let w : v ++ ws ≡ vs = cc in (
      omega (arith, length-append v ws, ap length w),
      ap (take (length v)) (sym w) ∙ take-append_seam v ws,
      (λ i. run (q i) (sym (drop-append_seam v ws) i)) ∙ ap (λ (l : List ℕ). run m (drop (length v) l)) w,
    )

-- where the code stands, a run that is not cut has a part
pub some_at : (area : List ℕ) (i code n : ℕ) (vs : List ℕ) → i < length area → get_or area i 0 ≡ code → further code (drop i area) ≡ run n vs
    → 1 ≤ n
unfolding extend
some_at area i code n vs h k e = go (dec_le (i + 2) (length area)) (dec_le (i + 2 + m) (length area))
  where
    m : ℕ
    m = get_or area (i + 1) 0

    begun : (v : List ℕ) (r : Run) → extend v r ≡ run n vs → 1 ≤ n
    begun v cut q = cut_run cut n vs refl q
    begun v (run j ws) q = let z : suc j ≡ n = cc in omega arith

    go : Dec (i + 2 ≤ length area) → Dec (i + 2 + m ≤ length area) → 1 ≤ n
    go (no g) _ = cut_run _ _ _ (further_no_length_at area i code h k (omega arith)) e
    go (yes g) (no w) = cut_run _ _ _ (further_no_value_at area i code g k (omega arith)) e
    go (yes g) (yes w) =
        begun (take m (drop (i + 2) area)) (further code (drop (i + 2 + m) area)) (sym (further_more_at area i code k w) ∙ e)

-- where a run of one part and more stands at i: its first part is complete, and the run goes on behind it
pub record Next (area : List ℕ) (i code m : ℕ) (vs : List ℕ) : Type 0 where
  pub within : i + 2 + get_or area (i + 1) 0 ≤ length area
  pub enough : get_or area (i + 1) 0 ≤ length vs
  pub here : take (get_or area (i + 1) 0) vs ≡ take (get_or area (i + 1) 0) (drop (i + 2) area)
  pub there : further code (drop (i + 2 + get_or area (i + 1) 0) area) ≡ run m (drop (get_or area (i + 1) 0) vs)

pub next_at : (area : List ℕ) (i code m : ℕ) (vs : List ℕ) → further code (drop i area) ≡ run (suc m) vs → Next area i code m vs
next_at area i code m vs e =
    go (dec_lt i (length area)) (ℕ_discrete (get_or area i 0) code) (dec_le (i + 2) (length area)) (dec_le (i + 2 + n) (length area))
  where
    n : ℕ
    n = get_or area (i + 1) 0

    v : List ℕ
    v = take n (drop (i + 2) area)

    go : Dec (i < length area) → Dec (get_or area i 0 ≡ code) → Dec (i + 2 ≤ length area) → Dec (i + 2 + n ≤ length area)
        → Next area i code m vs
    go (no h) _ _ _ = none_some _ _ _ (further_none_at area i code (omega arith)) e
    go (yes h) (no k) _ _ = none_some _ _ _ (further_other_at area i code h k) e
    go (yes h) (yes k) (no g) _ = cut_run _ _ _ (further_no_length_at area i code h k (omega arith)) e
    go (yes h) (yes k) (yes g) (no w) = cut_run _ _ _ (further_no_value_at area i code g k (omega arith)) e
    go (yes h) (yes k) (yes g) (yes w) =
        let lv : length v ≡ n = length-take-le n (drop (i + 2) area) (omega (arith, length-drop (i + 2) area)) in
        let x = extend_inv v vs m (further code (drop (i + 2 + n) area)) (sym (further_more_at area i code k w) ∙ e) in
        record {
          within = w;
          enough = omega (arith, x.0);
          here = ap (λ (j : ℕ). take j vs) (sym lv) ∙ x.1;
          there = x.2 ∙ ap (λ (j : ℕ). run m (drop j vs)) lv;
        }

-- the parts at the front of a list
module _ (code : ℕ) (rest : List ℕ) where
  pub run_none : (vs : List ℕ) → further code rest ≡ run 0 vs → vs ≡ []
  run_none vs e = (lies code rest 0 vs e).2 refl

  pub run_within : (n : ℕ) (vs : List ℕ) → further code rest ≡ run n vs → 2 * n + length vs ≤ length rest
  run_within n vs e = (lies code rest n vs e).0

-- an option stands in the area: it ends at the place `at`, and its n parts with the values v stand before it. With one part its value is
-- the bytes of the area before the place
pub record Stands (area : List ℕ) (code : ℕ) (v : List ℕ) (n at : ℕ) : Type 0 where
  pub within : at ≤ length area
  pub some : 1 ≤ n
  pub fits : 2 * n + length v ≤ at
  pub parts : further code (drop (at - (2 * n + length v)) area) ≡ run n v
  pub one : n ≡ 1 → v ≡ take (length v) (drop (at - length v) area)

module _ (area : List ℕ) (place at : ℕ) where
  -- a stop that the walk finds stands in the area: its reason is so many bytes before the place behind it
  pub walk_halts : (s : Stop) → walk place (drop place area) ≡ stop s at
      → (taken : ℕ) × (place + taken ≤ at) × Halts s (drop (at - taken) area) taken
  walk_halts s e =
      let f = subst (Finds place (drop place area)) e (finds place (drop place area)) in
      let start : at - f.1 ≡ place + f.0 = omega (arith, f.3) in (
        f.1,
        omega (arith, f.3),
        subst (λ (l : List ℕ). Halts s l f.1) (drop-drop f.0 place area ∙ ap (λ (k : ℕ). drop k area) (sym start)) f.4,
      )

  pub end_takes : walk place (drop place area) ≡ stop end at → place < at
  end_takes e = let h = walk_halts end e in omega (arith, h.1, one_byte h.2)
    where
      one_byte : {l : List ℕ} {taken : ℕ} → Halts end l taken → taken ≡ 1
      one_byte at-end = refl

  module _ (code : ℕ) (v : List ℕ) (n : ℕ) (e : walk place (drop place area) ≡ option code v n at) where
    found : Finds place (drop place area) (option code v n at)
    found = subst (Finds place (drop place area)) e (finds place (drop place area))

    pub option_takes : place + (2 * n + length v) ≤ at
    option_takes = omega (arith, found)

-- an option that the walk finds stands in the area
module _ (area : List ℕ) (code : ℕ) (v : List ℕ) (n at : ℕ) where
  pub walk_stands : (place : ℕ) → walk place (drop place area) ≡ option code v n at → Stands area code v n at
  walk_stands place e =
      let f = found area place at code v n e in
      let from : ℕ = at - (2 * n + length v) in
      let start : from ≡ place + f.0 = omega (arith, f.3) in
      let inside = run_within code (drop f.0 (drop place area)) n v f.4 in
      let parts : further code (drop from area) ≡ run n v =
      ap (λ (k : ℕ). further code (drop k area)) start ∙ ap (further code) (sym (drop-drop f.0 place area)) ∙ f.4 in
      record {
        within = omega (arith, f.2, f.3, length-drop f.0 (drop place area), length-drop place area);
        some = f.2;
        fits = omega (arith, f.3);
        parts = parts;
        one = λ single.
            let x = next_at area from code 0 v (parts ∙ ap (λ (k : ℕ). run k v) single) in
            let m : ℕ = get_or area (from + 1) 0 in
            let none : drop m v ≡ [] = run_none code _ _ x.there in
            let len : m ≡ length v = omega (arith, x.enough, ap length none, length-drop m v) in
            let begins : from + 2 ≡ at - length v = omega (arith, f.3) in
            sym (take-length v) ∙ ap (λ (k : ℕ). take k v) (sym len) ∙ x.here ∙ (λ i. take (len i) (drop (begins i) area));
      }

  -- and so does one that a call finds
  pub look_stands : (place : ℕ) → look area place ≡ given (option code v n at) → Stands area code v n at
  look_stands place e = walk_stands place (look_walked area place (option code v n at) e)

  -- of bytes, a part holds at most 255
  pub stands_small : Stands area code v n at → Bytes area → length v ≤ 255 * n
  stands_small s bytes = (lies code _ n v s.parts).1 (bytes_drop (at - (2 * n + length v)) area bytes)

-- the values of parts that stand in bytes are bytes
module _ (area : List ℕ) (bytes : Bytes area) where
  pub values_bytes : (n i code : ℕ) (vs : List ℕ) → further code (drop i area) ≡ run n vs → Bytes vs
  values_bytes zero i code vs e = subst Bytes (sym (run_none code (drop i area) vs e)) tt
  values_bytes (suc m) i code vs e =
      let next = next_at area i code m vs e in
      let k = get_or area (i + 1) 0 in
      let front = subst Bytes (sym next.here) (bytes_take k (drop (i + 2) area) (bytes_drop (i + 2) area bytes)) in
      let rest = values_bytes m (i + 2 + k) code (drop k vs) next.there in
      subst Bytes (take-append-drop k vs) (bytes_joined (take k vs) (drop k vs) front rest)

  -- and their code is one
  pub code_byte : (n i code : ℕ) (vs : List ℕ) → 1 ≤ n → further code (drop i area) ≡ run n vs → code < 256
  code_byte n i code vs some e = go (dec_lt i (length area)) (ℕ_discrete (get_or area i 0) code)
    where
      none : further code (drop i area) ≡ run 0 [] → code < 256
      none f = let z : 0 ≡ n = cc in absurd (omega arith)

      go : Dec (i < length area) → Dec (get_or area i 0 ≡ code) → code < 256
      go (no h) _ = none (further_none_at area i code (omega arith))
      go (yes h) (no k) = none (further_other_at area i code h k)
      go (yes h) (yes k) = subst (λ (x : ℕ). x < 256) k (byte_below area bytes i)

-- with room for as many bytes as the area has, everything is joined
pub all_joins : (area : List ℕ) (place room : ℕ) → length area ≤ most_bytes → place ≤ length area → length area ≤ room
    → step area place room ≡ given (walk place (drop place area))
all_joins area place room short within h = step_walks area place room short within ∙ go (walk place (drop place area)) refl
  where
    go : (f : Found) → walk place (drop place area) ≡ f → room_for room f ≡ given f
    go (stop s at) e = stop_answered room s at
    go (option code v n at) e =
        let s = walk_stands area code v n at place e in answered room code v n at (omega (arith, s.fits, s.within))
