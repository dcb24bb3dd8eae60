-- A further part in a row, number by number: the code stays, and so does the length where the part has no byte.
-- Assumes nothing.
use mathlib.Core.Path.{◌≡◌, sym, ap, ◌∙◌}
use Prim.Native.Nat.{ℕ, ◌+◌, ◌≤◌}
use native.Mathlib.Omega.{arith}
use mathlib.Core.List.{List, [], ◌∷◌}
use lib.ListN.{length, get_or, set}
use lib.Seq.{set-get_or, set_comm, get_or-set_other}
use Rattle.facts.proofs.Cells.{stores_over}
use Rattle.sindovaleph_entries.specs.Filling.{extended}

module _ (rows : List ℕ) (row len place : ℕ) (there : row + 4 ≤ length rows) where
  -- the parts, and with them the place
  abbrev parted : List ℕ
  parted = set rows (row + 1) (get_or rows (row + 1) 0 + 1)

  abbrev counted : List ℕ
  counted = set parted (row + 3) place

  -- the length is as it was
  pub same_len : get_or counted (row + 2) 0 ≡ get_or rows (row + 2) 0
  same_len =
      get_or-set_other parted (row + 3) (row + 2) place 0 (λ e. let f : ⊥ = omega arith in f)
      ∙ get_or-set_other rows (row + 1) (row + 2) (get_or rows (row + 1) 0 + 1) 0 (λ e. let f : ⊥ = omega arith in f)

  -- so all is written
  pub with_bytes : set counted (row + 2) (get_or counted (row + 2) 0 + len) ≡ extended rows row (get_or rows row 0) len place
  unfolding extended
  with_bytes =
      let x : ℕ = get_or rows row 0 in
      let a : ℕ = get_or rows (row + 1) 0 + 1 in
      let b : ℕ = get_or rows (row + 2) 0 + len in
      ap (λ (n : ℕ). set counted (row + 2) (n + len)) same_len
      ∙ set_comm parted (row + 3) (row + 2) place b (λ e. let f : ⊥ = omega arith in f)
      ∙ ap (λ (d : List ℕ). set (set (set d (row + 1) a) (row + 2) b) (row + 3) place) (sym (set-get_or rows row 0))
      ∙ stores_over rows row (x ∷ a ∷ b ∷ place ∷ []) there

  -- a part with no byte changes no length
  pub without_bytes : len ≤ 0 → counted ≡ extended rows row (get_or rows row 0) len place
  without_bytes z =
      let none : get_or counted (row + 2) 0 ≡ get_or counted (row + 2) 0 + len = omega arith in
      sym (set-get_or counted (row + 2) 0) ∙ ap (set counted (row + 2)) none ∙ with_bytes
