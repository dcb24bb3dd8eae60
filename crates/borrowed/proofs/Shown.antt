-- The bytes that an option shows, case by case.
-- Assumes nothing.
use mathlib.Core.Path.{◌≡◌, sym, ap, ◌∙◌}
use Prim.Native.Nat.{ℕ, ◌+◌, ◌-◌, ◌≤◌, ◌<◌}
use native.Mathlib.Omega.{arith}
use native.Mathlib.Decide.{dec_le}
use mathlib.Core.List.{List, []}
use lib.ListN.{length, take, drop, length-drop}
use lib.Seq.{length-take-le, take-length}
use Rattle.std.specs.Prelude.{slice_range}
use borrow.Author.Tests.{le-leb, lt-leb}
use Rattle.borrowed.specs.Walked.{part_of, shown}

module _ (bytes : List ℕ) (start len : ℕ) where
  pub part_there : start + len ≤ length bytes → part_of bytes start len ≡ take len (drop start bytes)
  unfolding part_of
  part_there h = rw (le-leb (start + len) (length bytes) h)

  -- as the front of what stands from `start` on
  pub part_front : {rest : List ℕ} → start ≤ length bytes → rest ≡ slice_range bytes start (length bytes) → len ≤ length rest
      → take len rest ≡ part_of bytes start len
  part_front {rest} h e g =
      let l : length (drop start bytes) ≡ length bytes - start = length-drop start bytes in
      let is : rest ≡ drop start bytes = e ∙ ap (λ (n : ℕ). take n (drop start bytes)) (sym l) ∙ take-length (drop start bytes) in
      ap (take len) is ∙ sym (part_there (omega (arith, l, ap length is)))

  pub part_none : length bytes < start + len → part_of bytes start len ≡ []
  unfolding part_of
  part_none h = rw (lt-leb (start + len) (length bytes) h)

module _ (parts len place : ℕ) (area join : List ℕ) where
  pub shown_many : 1 < parts → shown parts len place area join ≡ part_of join 0 len
  unfolding shown
  shown_many h = rw (lt-leb parts 1 h)

  pub shown_none : parts ≤ 1 → place < len → shown parts len place area join ≡ part_of area 0 0
  unfolding shown
  shown_none h g = simp (le-leb parts 1 h, lt-leb len place g) (sym (part_there area 0 0 (omega arith)))

  pub shown_one : parts ≤ 1 → len ≤ place → shown parts len place area join ≡ part_of area (place - len) len
  unfolding shown
  shown_one h g = simp (le-leb parts 1 h, le-leb len place g)

  -- bytes that are there are as many as was said
  pub length_shown : (parts ≤ 1 → len ≤ place) → place ≤ length area → (1 < parts → len ≤ length join) → length (shown parts len place area join) ≡ len
  length_shown h g k = go (dec_le parts 1)
    where
      go : Dec (parts ≤ 1) → length (shown parts len place area join) ≡ len
      go (yes p) =
          let b : len ≤ place = h p in
          ap length (shown_one p b ∙ part_there area (place - len) len (omega arith))
          ∙ length-take-le len (drop (place - len) area) (omega (arith, length-drop (place - len) area))
      go (no p) =
          let j : len ≤ length join = k (omega arith) in
          ap length (shown_many (omega arith) ∙ part_there join 0 len (omega arith)) ∙ length-take-le len join j
