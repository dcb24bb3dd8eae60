-- The laws of `over`, by which a run of writes is one write.
-- Assumes nothing.
use mathlib.Core.Path.{◌≡◌, refl, sym, ap, ◌∙◌}
use Prim.Native.Nat.{ℕ, suc, ◌+◌, ◌-◌, ◌≤◌, ◌<◌}
use native.Mathlib.Omega.{arith}
use native.Mathlib.Nat.{add-zero}
use mathlib.Core.List.{List, [], ◌∷◌, ◌++◌, append_assoc, append-nil}
use lib.ListN.{length, take, drop, get_or, set, length-take, length-drop, length-append, take-append-drop, drop_of_length-le, get_or-append}
use lib.Seq.{length-take-le, take-append-le, drop-append-le, take-append-add, drop-append-add, take_at, drop_at, take-add, drop-drop}
use lib.Seq.{set_split, append_snoc}
use Rattle.facts.specs.Over.{over}

head_length : (d : List ℕ) (at : ℕ) (s : List ℕ) → at ≤ length d → length (take at d ++ s) ≡ at + length s
head_length d at s h = omega (arith, length-append (take at d) s, length-take-le at d h)

-- nothing written
pub over_nil : (d : List ℕ) (at : ℕ) → over d at [] ≡ d
unfolding over
over_nil d at = simp (add-zero, append-nil, take-append-drop)

module _ (d : List ℕ) (at : ℕ) (s : List ℕ) (fits : at + length s ≤ length d) where
  -- a write keeps the length, what stands before it and what stands behind it
  pub length_over : length (over d at s) ≡ length d
  unfolding over
  length_over = simp (length-append, length-drop, length-take) (omega arith)

  pub before_over : take at (over d at s) ≡ take at d
  unfolding over
  before_over = rw append_assoc (take_at (take at d) _ at (length-take-le at d (omega arith)))

  pub behind_over : drop (at + length s) (over d at s) ≡ drop (at + length s) d
  unfolding over
  behind_over = drop_at (take at d ++ s) (drop (at + length s) d) (at + length s) (head_length d at s (omega arith))

  -- from its place on stands what was written, and then what stood behind it
  pub from_over : drop at (over d at s) ≡ s ++ drop (at + length s) d
  unfolding over
  from_over = rw append_assoc (drop_at (take at d) _ at (length-take-le at d (omega arith)))

  pub shown_over : take (length s) (drop at (over d at s)) ≡ s
  shown_over = ap (take (length s)) from_over ∙ take_at s (drop (at + length s) d) (length s) refl

-- as many elements in the place of a part of a list, and in the place of all of it
pub over_part : (d : List ℕ) (at n : ℕ) (s : List ℕ) → length s ≡ n → take at d ++ (s ++ drop n (drop at d)) ≡ over d at s
unfolding over
over_part d at n s e = rw (← e, drop-drop, append_assoc)

pub over_all : (d s : List ℕ) → length s ≡ length d → over d 0 s ≡ s
unfolding over
over_all d s e = let z : length d ≤ 0 + length s = omega arith in ap (λ (l : List ℕ). s ++ l) (drop_of_length-le d z) ∙ append-nil s

-- a write behind another
pub over_over : (d : List ℕ) (at : ℕ) (a b : List ℕ) → at + length a ≤ length d
    → over (over d at a) (at + length a) b ≡ over d at (a ++ b)
unfolding over
over_over d at a b h =
    let rest : List ℕ = drop (at + length a) d in
    let l : length (take at d ++ a) ≡ at + length a = head_length d at a (omega arith) in
    let k : at + length a + length b ≡ at + length (a ++ b) = omega (arith, length-append a b) in
    rw (take_at (take at d ++ a) rest (at + length a) l, ← (drop-drop (length b) (at + length a) (take at d ++ a ++ rest)))
    (rw (drop_at (take at d ++ a) rest (at + length a) l, drop-drop (length b) (at + length a) d, k, append_assoc (take at d) a b))

-- a write behind a list, and one in it, where another stands behind
pub over_behind : (a b : List ℕ) (n : ℕ) (s : List ℕ) → over (a ++ b) (length a + n) s ≡ a ++ over b n s
unfolding over
over_behind a b n s =
    let k : length a + n + length s ≡ length a + (n + length s) = omega arith in
    rw (k, take-append-add a b n, drop-append-add a b (n + length s)) (simp append_assoc)

pub over_within : (a b : List ℕ) (n : ℕ) (s : List ℕ) → n + length s ≤ length a → over (a ++ b) n s ≡ over a n s ++ b
unfolding over
over_within a b n s h = rw (take-append-le n a b (omega arith), drop-append-le (n + length s) a b h) (simp append_assoc)

-- a write in one at the front, and what that has at a place
pub over_front : (d a : List ℕ) (n : ℕ) (s : List ℕ) → length a ≤ length d → n + length s ≤ length a
    → over (over d 0 a) n s ≡ over d 0 (over a n s)
unfolding over
over_front d a n s h g =
    over_within a (drop (0 + length a) d) n s g
    ∙ ap (λ (k : ℕ). over a n s ++ drop (0 + k) d) (sym (length_over a n s g))

pub front_at : (d a : List ℕ) (n : ℕ) → n < length a → get_or (over d 0 a) n 0 ≡ get_or a n 0
unfolding over
front_at d a n h = get_or-append a (drop (0 + length a) d) 0 n h

-- the next p of what is to be written, where n of it stand already: one turn of any loop that writes
pub over_next : (d : List ℕ) (at : ℕ) (all p : List ℕ) (n : ℕ)
    → at + n ≤ length d → n ≤ length all → take (length p) (drop n all) ≡ p
    → over (over d at (take n all)) (at + n) p ≡ over d at (take (n + length p) all)
over_next d at all p n h g e =
    let l : length (take n all) ≡ n = length-take-le n all g in
    ap (λ (k : ℕ). over (over d at (take n all)) (at + k) p) (sym l)
    ∙ over_over d at (take n all) p (omega arith)
    ∙ rw (take-add, e)

-- a write hides a shorter one at its place
over_hides : (d : List ℕ) (at : ℕ) (a b : List ℕ) → at + length a ≤ length d → length a ≤ length b
    → over (over d at a) at b ≡ over d at b
unfolding over
over_hides d at a b h g =
    let more : ℕ = length b - length a in
    let k : at + length a + more ≡ at + length b = omega arith in
    let behind : drop (at + length b) (over d at a) ≡ drop (at + length b) d =
    rw (← k, ← (drop-drop more (at + length a) (over d at a)), ← (drop-drop more (at + length a) d), behind_over d at a h) in
    rw (before_over d at a h, behind)

-- the n elements from the kth on, where of what is to be written the first j stand already: the first k, and maybe some of these n
module _ (d : List ℕ) (at : ℕ) (s : List ℕ) (k n : ℕ) (fits : at + (k + n) ≤ length d) (there : k + n ≤ length s) where
  part_length : (m : ℕ) → m ≤ n → length (take m (drop k s)) ≡ m
  part_length m h = length-take-le m (drop k s) (omega (arith, length-drop k s))

  part_next : (m : ℕ) → m ≤ n → over (over d at (take k s)) (at + k) (take m (drop k s)) ≡ over d at (take (k + m) s)
  part_next m h =
      let l = part_length m h in
      over_next d at s (take m (drop k s)) k (omega arith) (omega arith) (ap (λ (i : ℕ). take i (drop k s)) l)
      ∙ ap (λ (i : ℕ). over d at (take (k + i) s)) l

  pub over_lap : (j : ℕ) → k ≤ j → j ≤ k + n → over (over d at (take j s)) (at + k) (take n (drop k s)) ≡ over d at (take (k + n) s)
  over_lap j g h =
      let e : k + (j - k) ≡ j = omega arith in
      let a = part_length (j - k) (omega arith) in
      let b = part_length n (omega arith) in
      let l = length_over d at (take k s) (omega (arith, length-take-le k s (omega arith))) in
      ap (λ (i : ℕ). over (over d at (take i s)) (at + k) (take n (drop k s))) (sym e)
      ∙ ap (λ (x : List ℕ). over x (at + k) (take n (drop k s))) (sym (part_next (j - k) (omega arith)))
      ∙ over_hides (over d at (take k s)) (at + k) (take (j - k) (drop k s)) (take n (drop k s)) (omega arith) (omega arith)
      ∙ part_next n (omega arith)

-- a store is a write of one element
pub set_over : (d : List ℕ) (at b : ℕ) → at < length d → set d at b ≡ over d at (b ∷ [])
unfolding over
set_over d at b h =
    let k : suc at ≡ at + 1 = omega arith in
    rw (append_snoc, ← k) (set_split d at b h)
