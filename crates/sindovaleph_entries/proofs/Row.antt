-- The row of a code: its four numbers, and what one part more does to it.
-- Assumes nothing.
use mathlib.Core.Path.{◌≡◌, refl, sym, ap, ◌∙◌}
use Prim.Native.Nat.{ℕ, suc, zero, ◌+◌}
use native.Mathlib.Omega.{arith}
use mathlib.Core.List.{List, [], ◌∷◌, ◌++◌, map, flatten}
use lib.ListN.{length, take, length-append}
use Rattle.facts.proofs.Distinct.{At, take_at}
use Rattle.facts.proofs.Rows.{rows_for, Four}
use Rattle.rfc.specs.Portions.{Portion, of_code, joined_value}
use Rattle.rfc.specs.Aggregate.{codes_of, behind_last, option_from, options_from}
use Rattle.rfc.proofs.Sizes.{joined_one, joined_more}
use Rattle.rfc.proofs.OfCode.{of_last, of_others, behind-last, behind_more, option_some}
use Rattle.rfc.proofs.Listed.{not_listed, listed_has}
use Rattle.rfc.proofs.Aggregate.{options_are}
use Rattle.sindovaleph_entries.specs.Rows.{entry_row, entry_rows}

-- the row of a code
abbrev pub row : List Portion → ℕ → List ℕ
row ps code = entry_row (option_from code (of_code code ps))

pub rows_are : (ps : List Portion) (k : ℕ) → entry_rows k (options_from ps) ≡ rows_for (row ps) (take k (codes_of ps))
unfolding entry_rows flatten
rows_are ps k = ap (entry_rows k) (options_are ps) ∙ go k (codes_of ps)
  where
    go : (k : ℕ) (cs : List ℕ)
        → flatten (map entry_row (take k (map (λ (code : ℕ). option_from code (of_code code ps)) cs))) ≡ rows_for (row ps) (take k cs)
    go zero cs = refl
    go (suc k) [] = refl
    go (suc k) (c ∷ cs) = ap (λ (l : List ℕ). row ps c ++ l) (go k cs)

four_numbers : (code : ℕ) (p : Portion) (qs : List Portion)
    → entry_row (option_from code (p ∷ qs)) ≡ code ∷ length (p ∷ qs) ∷ length (joined_value (p ∷ qs)) ∷ behind_last p qs ∷ []
unfolding entry_row
four_numbers code p qs = ap entry_row (option_some code p qs)

-- of a code that is listed, before and behind one part more
module _ (ps : List Portion) (code i : ℕ) (a : At code i (codes_of ps)) where
  abbrev head : Portion
  head = (listed_has code ps i a).0

  abbrev others : List Portion
  others = (listed_has code ps i a).1

  has : of_code code ps ≡ head ∷ others
  has = (listed_has code ps i a).2

  pub row_is : row ps code ≡ code ∷ length (of_code code ps) ∷ length (joined_value (of_code code ps)) ∷ behind_last head others ∷ []
  row_is =
      ap (λ (l : List Portion). entry_row (option_from code l)) has ∙ four_numbers code head others
      ∙ ap (λ (l : List Portion). code ∷ length l ∷ length (joined_value l) ∷ behind_last head others ∷ []) (sym has)

  row_four : length (row ps code) ≡ 4
  row_four = ap length row_is

  pub row_further : (p : Portion) → p.code ≡ code
      → row (ps ++ p ∷ []) code
      ≡ code ∷ (length (of_code code ps) + 1) ∷ (length (joined_value (of_code code ps)) + length p.value) ∷ p.place ∷ []
  row_further p e =
      let all : of_code code (ps ++ p ∷ []) ≡ head ∷ (others ++ p ∷ []) = of_last code ps p e ∙ ap (λ (l : List Portion). l ++ p ∷ []) has in
      let one : length (head ∷ (others ++ p ∷ [])) ≡ length (of_code code ps) + 1 = omega (arith, ap length has, length-append others (p ∷ [])) in
      let two : length (joined_value (head ∷ (others ++ p ∷ []))) ≡ length (joined_value (of_code code ps)) + length p.value =
      joined_more (head ∷ others) p ∙ ap (λ (l : List Portion). length (joined_value l) + length p.value) (sym has) in
      ap (λ (l : List Portion). entry_row (option_from code l)) all ∙ four_numbers code head (others ++ p ∷ [])
      ∙ (λ i. code ∷ one i ∷ two i ∷ behind_more head others p i ∷ [])

-- of a code that is new, and of another
pub row_first : (ps : List Portion) (p : Portion) → ((i : ℕ) → At p.code i (codes_of ps) → ⊥)
    → row (ps ++ p ∷ []) p.code ≡ p.code ∷ 1 ∷ length p.value ∷ p.place ∷ []
row_first ps p n =
    let long : length (joined_value (p ∷ [])) ≡ length p.value = ap length (joined_one p) in
    let only : of_code p.code (ps ++ p ∷ []) ≡ p ∷ [] =
    of_last p.code ps p refl ∙ ap (λ (l : List Portion). l ++ p ∷ []) (not_listed p.code ps n) in
    ap (λ (l : List Portion). entry_row (option_from p.code l)) only
    ∙ four_numbers p.code p []
    ∙ (λ i. p.code ∷ 1 ∷ long i ∷ behind-last p [] i ∷ [])

pub row_other : (ps : List Portion) (p : Portion) (code : ℕ) → (p.code ≡ code → ⊥) → row ps code ≡ row (ps ++ p ∷ []) code
row_other ps p code d = ap (λ (l : List Portion). entry_row (option_from code l)) (sym (of_others code ps p d))

-- the rows of the first k codes are four numbers each
pub four_all : (ps : List Portion) (k : ℕ) → Four (row ps) (take k (codes_of ps))
four_all ps k n i a = row_four ps n i (take_at k (codes_of ps) a).1
