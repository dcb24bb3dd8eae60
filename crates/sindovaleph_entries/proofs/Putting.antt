-- The laws of `specs/Filling.antt`: a part that is put into its row makes the sheet that of one part more.
-- Assumes nothing.
use mathlib.Core.Path.{◌≡◌, refl, sym, ap, subst, ◌∙◌}
use Prim.Native.Nat.{ℕ, ◌+◌, ◌-◌, ◌*◌, ◌/◌, ◌≤◌, ◌<◌}
use native.Mathlib.Omega.{arith}
use native.Mathlib.Decide.{dec_le}
use mathlib.Core.List.{List, [], ◌∷◌, ◌++◌, append-nil}
use mathlib.Core.Bool.{cond}
use lib.Dec.{leb, ltb}
use lib.ListN.{length, get_or, take, replicate, length-append, length-take, length-replicate}
use lib.Seq.{append_snoc, take_all, take-append-le, take-nil}
use borrow.Author.Tests.{eq-eqb, ne_eqb, le-leb, lt-leb, lt-ltb, le-ltb}
use Rattle.facts.specs.Over.{over}
use Rattle.facts.proofs.Over.{over_nil, over_over, over_front, front_at, length_over}
use Rattle.facts.proofs.Distinct.{At, at_index, at_take, take_at, once_take, once_same}
use Rattle.facts.proofs.Marks.{Marked, marked_none, marked_length, marked_more}
use Rattle.facts.proofs.Rows.{rows_for, rows_append, rows_same, rows_length, rows_at, rows_over}
use Rattle.rfc.specs.Portions.{Portion, of_code, joined_value}
use Rattle.rfc.specs.Aggregate.{codes_of, options_from}
use Rattle.rfc.proofs.Listed.{codes_none, Further, again, first, further, codes_once, Coded}
use Rattle.sindovaleph_entries.specs.Rows.{entry_rows}
use Rattle.sindovaleph_entries.specs.Filling.{Sheet, sheet, begins, extended, puts, fills, Holds}
use Rattle.sindovaleph_entries.proofs.Row.{row, rows_are, row_is, row_further, row_first, row_other, four_all}

-- a sheet's rows
module _ {lent : List ℕ} {ps : List Portion} {s : Sheet} (h : Holds lent ps s) where
  abbrev k : ℕ
  k = length lent / 4

  abbrev cs : List ℕ
  cs = codes_of ps

  abbrev old : List ℕ
  old = rows_for (row ps) (take k cs)

  old_length : length old ≡ 4 * length (take k cs)
  old_length = rows_length (row ps) (take k cs) (four_all ps k)

  old_fits : length old ≤ length lent
  old_fits = omega (arith, old_length, length-take k cs)

  is_old : s.rows ≡ over lent 0 old
  is_old = h.filled ∙ ap (over lent 0) (rows_are ps k)

  pub holds_long : length s.rows ≡ length lent
  holds_long = ap length is_old ∙ length_over lent 0 old (omega (arith, old_fits))

  same_k : length s.rows / 4 ≡ k
  same_k = ap (λ (n : ℕ). n / 4) holds_long

  -- the numbers of a code that has a row
  module _ (code i : ℕ) (a : At code i cs) (room : i < k) where
    here_at : At code i (take k cs)
    here_at = at_take k room a

    inside : i < length (take k cs)
    inside = (at_index here_at).0

    number : (j : ℕ) → j < 4 → get_or s.rows (4 * i + j) 0 ≡ get_or (row ps code) j 0
    number j g =
        ap (λ (l : List ℕ). get_or l (4 * i + j) 0) is_old
        ∙ front_at lent old (4 * i + j) (omega (arith, old_length, inside))
        ∙ rows_at (row ps) (four_all ps k) here_at j g

    pub holds_code : get_or s.rows (4 * i) 0 ≡ code
    holds_code =
        let front : 4 * i ≡ 4 * i + 0 = omega arith in
        ap (λ (n : ℕ). get_or s.rows n 0) front ∙ number 0 (omega arith) ∙ ap (λ (l : List ℕ). get_or l 0 0) (row_is ps code i a)

    pub holds_parts : get_or s.rows (4 * i + 1) 0 ≡ length (of_code code ps)
    holds_parts = number 1 (omega arith) ∙ ap (λ (l : List ℕ). get_or l 1 0) (row_is ps code i a)

    pub holds_len : get_or s.rows (4 * i + 2) 0 ≡ length (joined_value (of_code code ps))
    holds_len = number 2 (omega arith) ∙ ap (λ (l : List ℕ). get_or l 2 0) (row_is ps code i a)

  -- one part more
  module _ (p : Portion) where
    abbrev code : ℕ
    code = p.code

    abbrev qs : List Portion
    qs = ps ++ p ∷ []

    -- of a new code
    module _ (new : (i : ℕ) → At code i cs → ⊥) (e : codes_of qs ≡ cs ++ code ∷ []) where
      kept_rows : old ≡ rows_for (row qs) (take k cs)
      kept_rows =
          rows_same (row ps) (row qs) (take k cs)
          (λ n i a. row_other ps p n (λ w. new i (subst (λ (c : ℕ). At c i cs) (sym w) (take_at k cs a).1)))

      new_rows : cond (ltb s.codes (length s.rows / 4)) (over s.rows (4 * s.codes) (code ∷ 1 ∷ length p.value ∷ p.place ∷ []))
          s.rows
          ≡ over lent 0 (entry_rows k (options_from qs))
      new_rows = go (dec_le k s.codes)
        where
          all : rows_for (row qs) (take k (cs ++ code ∷ [])) ≡ entry_rows k (options_from qs)
          all = ap (λ (l : List ℕ). rows_for (row qs) (take k l)) (sym e) ∙ sym (rows_are qs k)

          go : Dec (k ≤ s.codes)
              → cond (ltb s.codes (length s.rows / 4)) (over s.rows (4 * s.codes) (code ∷ 1 ∷ length p.value ∷ p.place ∷ []))
              s.rows
              ≡ over lent 0 (entry_rows k (options_from qs))
          go (yes g) =
              let full : length s.rows / 4 ≤ s.codes = omega (arith, same_k) in
              rw (le-ltb s.codes (length s.rows / 4) full)
              (is_old ∙ ap (over lent 0)
              (kept_rows ∙ ap (rows_for (row qs)) (sym (take-append-le k cs (code ∷ []) (omega (arith, h.counted)))) ∙ all))
          go (no g) =
              let room : s.codes < length s.rows / 4 = omega (arith, same_k) in
              let every : take k cs ≡ cs = take_all k cs (omega (arith, h.counted)) in
              let more : take k (cs ++ code ∷ []) ≡ cs ++ code ∷ [] =
              take_all k (cs ++ code ∷ []) (omega (arith, h.counted, length-append cs (code ∷ []))) in
              let at : 4 * s.codes ≡ 0 + length old = omega (arith, old_length, ap length every, h.counted) in
              let joined : old ++ row qs code ≡ rows_for (row qs) (take k (cs ++ code ∷ [])) =
              (λ i. (kept_rows ∙ ap (rows_for (row qs)) every) i ++ sym (append-nil (row qs code)) i)
              ∙ sym (rows_append (row qs) cs (code ∷ [])) ∙ ap (rows_for (row qs)) (sym more) in
              rw (lt-ltb s.codes (length s.rows / 4) room)
              ((λ i. over (is_old i) (at i) (sym (row_first ps p new) i))
              ∙ over_over lent 0 old (row qs code) (omega (arith, old_fits)) ∙ ap (over lent 0) (joined ∙ all))

    -- of a code that has a row already, or none for want of room
    module _ (i : ℕ) (a : At code i cs) (e : codes_of qs ≡ cs) where
      all_again : rows_for (row qs) (take k cs) ≡ entry_rows k (options_from qs)
      all_again = ap (λ (l : List ℕ). rows_for (row qs) (take k l)) (sym e) ∙ sym (rows_are qs k)

      more_rows : i < k → extended s.rows (4 * i) code (length p.value) p.place ≡ over lent 0 (entry_rows k (options_from qs))
      unfolding extended
      more_rows room =
          let at = at_index (at_take k room a) in
          let l : length (row qs code) ≡ 4 = ap length (row_further ps code i a p refl) in
          (λ t. over (is_old t) (4 * i)
          (code ∷ (holds_parts code i a room t + 1) ∷ (holds_len code i a room t + length p.value) ∷ p.place ∷ []))
          ∙ ap (over (over lent 0 old) (4 * i)) (sym (row_further ps code i a p refl))
          ∙ over_front lent old (4 * i) (row qs code) old_fits (omega (arith, old_length, at.0))
          ∙ ap (over lent 0)
          (rows_over (row ps) (row qs) (four_all ps k) (once_take k cs (codes_once ps)) (at_take k room a) l (λ m d. row_other ps p m d) ∙ all_again)

      no_rows : k ≤ i → s.rows ≡ over lent 0 (entry_rows k (options_from qs))
      no_rows full =
          is_old ∙ ap (over lent 0) (rows_same (row ps) (row qs) (take k cs) (λ n j b. row_other ps p n (λ w.
          let r = take_at k cs b in
          let same : i ≡ j = once_same (codes_once ps) (subst (λ (c : ℕ). At c i cs) w a) r.1 in
          omega (arith, r.0))) ∙ all_again)

      again_rows : (mark : ℕ) → mark ≡ i + 1
          → cond (leb mark (length s.rows / 4)) (extended s.rows (4 * (mark - 1)) code (length p.value) p.place) s.rows
          ≡ over lent 0 (entry_rows k (options_from qs))
      again_rows mark is = go (dec_le mark (length s.rows / 4))
        where
          at : 4 * (mark - 1) ≡ 4 * i
          at = omega (arith, is)

          go : Dec (mark ≤ length s.rows / 4)
              → cond (leb mark (length s.rows / 4)) (extended s.rows (4 * (mark - 1)) code (length p.value) p.place) s.rows
              ≡ over lent 0 (entry_rows k (options_from qs))
          go (yes g) =
              rw (le-leb mark (length s.rows / 4) g)
              (ap (λ (n : ℕ). extended s.rows n code (length p.value) p.place) at ∙ more_rows (omega (arith, is, same_k)))
          go (no g) = rw (lt-leb mark (length s.rows / 4) (omega arith)) (no_rows (omega (arith, is, same_k)))

-- one part more, put into its row
pub holds_more : {lent : List ℕ} {s : Sheet} (ps : List Portion) → Holds lent ps s → (p : Portion) → p.code < 256
    → Holds lent (ps ++ p ∷ []) (puts s p.code (length p.value) p.place)
unfolding puts begins
holds_more {lent} {s} ps h p small = go (further ps p)
  where
    there : p.code < length s.marks
    there = omega (arith, h.each)

    go : Further ps p → Holds lent (ps ++ p ∷ []) (puts s p.code (length p.value) p.place)
    go (first new e) =
        let one : length (codes_of ps) + 1 ≡ s.codes + 1 = omega (arith, h.counted) in
        rw (eq-eqb (get_or s.marks p.code 0) 0 (h.marked.unseen p.code new))
        (record {
          each =
              ap (λ (n : ℕ). length (over s.marks p.code (n ∷ []))) (sym one) ∙ marked_length h.marked p.code there new ∙ h.each;
          marked =
              subst (λ (l : List ℕ). Marked (λ (j : ℕ). j + 1) l (over s.marks p.code ((s.codes + 1) ∷ []))) (sym e)
              (subst (λ (n : ℕ). Marked (λ (j : ℕ). j + 1) (codes_of ps ++ p.code ∷ []) (over s.marks p.code (n ∷ []))) one
              (marked_more h.marked p.code there new));
          filled = new_rows h p new e;
          counted = omega (arith, h.counted, ap length e, length-append (codes_of ps) (p.code ∷ []));
        })
    go (again i a e) =
        let mark : get_or s.marks p.code 0 ≡ i + 1 = h.marked.seen p.code i a in
        rw (ne_eqb (get_or s.marks p.code 0) 0 (λ z. omega (arith, mark)))
        (record {
          each = h.each;
          marked = subst (λ (l : List ℕ). Marked (λ (j : ℕ). j + 1) l s.marks) (sym e) h.marked;
          filled = again_rows h p i a e (get_or s.marks p.code 0) mark;
          counted = h.counted ∙ ap length (sym e);
        })

-- all parts of a list, one after the other
pub holds_all : {lent : List ℕ} {s : Sheet} (ps : List Portion) → Holds lent ps s → (qs : List Portion) → Coded qs
    → Holds lent (ps ++ qs) (fills s qs)
unfolding fills
holds_all {lent} {s} ps h [] c = subst (λ (l : List Portion). Holds lent l s) (sym (append-nil ps)) h
holds_all {lent} {s} ps h (q ∷ qs) c =
    subst (λ (l : List Portion). Holds lent l (fills (puts s q.code (length q.value) q.place) qs)) (append_snoc ps q qs)
    (holds_all {s = puts s q.code (length q.value) q.place} (ps ++ q ∷ []) (holds_more ps h q (omega (arith, c.0.1))) qs c.1)

pub holds_none : (lent : List ℕ) → Holds lent [] (sheet (replicate 256 0) lent 0)
holds_none lent =
    record {
      each = length-replicate {A = ℕ} 256 0;
      marked = rw codes_none (marked_none (λ (i : ℕ). i + 1) 256);
      filled =
          sym (ap (over lent 0)
          (rows_are [] (length lent / 4) ∙ ap (λ (l : List ℕ). rows_for (row []) (take (length lent / 4) l)) codes_none
          ∙ ap (rows_for (row [])) (take-nil (length lent / 4)))
          ∙ over_nil lent 0);
      counted = sym (ap length codes_none);
    }
