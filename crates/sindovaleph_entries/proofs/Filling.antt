-- What the functions of the crate rest on: the numbers that are added up stay small, a loop over a field keeps the sheet's meaning, and the
-- three fields of a message are filled one after the other.
-- Assumes nothing.
use mathlib.Core.Path.{◌≡◌, refl, sym, ap, subst, ◌∙◌}
use Prim.Native.Nat.{ℕ, ◌+◌, ◌-◌, ◌*◌, ◌/◌, ◌≤◌, ◌<◌}
use native.Mathlib.Omega.{arith}
use mathlib.Core.List.{List, [], ◌∷◌, ◌++◌}
use lib.ListN.{length, take, drop, get_or, set, replicate, length-append, length-drop}
use borrow.Author.Tests.{eq-eqb, ne_eqb, le-leb, lt-leb, lt-ltb, le-ltb}
use Rattle.facts.specs.Over.{over}
use Rattle.facts.proofs.Over.{set_over}
use Rattle.rfc.specs.Numbers.{most_bytes}
use Rattle.rfc.specs.Lists.{Bytes}
use Rattle.rfc.specs.Portions.{Portion, portion, whole, portions, parts_in, joined_value}
use Rattle.rfc.specs.Aggregate.{fields_of, aggregate, codes_of, options_from}
use Rattle.rfc.proofs.Portions.{parts_whole}
use Rattle.rfc.proofs.Listed.{Further, again, first, further, Coded, coded_append, coded_field, few_listed}
use Rattle.rfc.proofs.Sizes.{joined_both, joined_more, fits_field, of_code_fits}
use Rattle.rfc.proofs.Bytes.{bytes_take}
use Rattle.portions.proofs.Left.{FirstLeft}
use Rattle.aggregate.specs.Spanned.{Open, spans_of}
use Rattle.aggregate.specs.declared.fields.Spans.{Spans}
use Rattle.aggregate.proofs.Spanning.{Reads, opens}
use Rattle.aggregate.proofs.Fronts.{options_at, file_at, sname_at, file_front, sname_front}
use Rattle.sindovaleph_entries.specs.Rows.{entry_rows}
use Rattle.sindovaleph_entries.specs.Filling.{Sheet, sheet, first_row, begins, extended, puts, fills, Holds, Extends, Puts, Fills, FillsAll}
use Rattle.sindovaleph_entries.proofs.Putting.{holds_code, holds_parts, holds_len, holds_long, holds_more, holds_all, holds_none}

-- a part put into its row, case by case
module _ (s : Sheet) (code len place : ℕ) where
  abbrev mark : ℕ
  mark = get_or s.marks code 0

  module _ (new : mark ≡ 0) (there : code < length s.marks) where
    pub puts_first : s.codes < length s.rows / 4 → {rows' : List ℕ} → rows' ≡ over s.rows (4 * s.codes) (first_row code len place)
        → sheet (set s.marks code (s.codes + 1)) rows' (s.codes + 1) ≡ puts s code len place
    unfolding puts begins
    puts_first room e =
        rw (eq-eqb mark 0 new, lt-ltb s.codes (length s.rows / 4) room)
        (λ i. sheet (set_over s.marks code (s.codes + 1) there i) (e i) (s.codes + 1))

    pub puts_counted : length s.rows / 4 ≤ s.codes → sheet (set s.marks code (s.codes + 1)) s.rows (s.codes + 1) ≡ puts s code len place
    unfolding puts begins
    puts_counted full =
        rw (eq-eqb mark 0 new, le-ltb s.codes (length s.rows / 4) full)
        (λ i. sheet (set_over s.marks code (s.codes + 1) there i) s.rows (s.codes + 1))

  module _ (old : mark ≡ 0 → ⊥) where
    pub puts_further : (rows' : List ℕ) → mark ≤ length s.rows / 4 → {front : ℕ} → front ≡ code
        → rows' ≡ extended s.rows (4 * (mark - 1)) front len place → sheet s.marks rows' s.codes ≡ puts s code len place
    unfolding puts
    puts_further rows' room same e =
        rw (ne_eqb mark 0 old, le-leb mark (length s.rows / 4) room)
        (λ i. sheet s.marks ((e ∙ ap (λ (c : ℕ). extended s.rows (4 * (mark - 1)) c len place) same) i) s.codes)

    pub puts_passed : length s.rows / 4 < mark → s ≡ puts s code len place
    unfolding puts
    puts_passed full = rw (ne_eqb mark 0 old, lt-leb mark (length s.rows / 4) full) refl

-- the row of a code that has one: it is the code's, and its sums stay small
module _ {s : Sheet} {code len : ℕ} (h : Puts s code len) (old : get_or s.marks code 0 ≡ 0 → ⊥)
    (room : get_or s.marks code 0 ≤ length s.rows / 4) where
  abbrev at_row : ℕ
  at_row = 4 * (get_or s.marks code 0 - 1)

  pub has_row : Extends s.rows at_row len × (get_or s.rows at_row 0 ≡ code)
  has_row = go (further h.before (portion code [] 0))
    where
      go : Further h.before (portion code [] 0) → Extends s.rows at_row len × (get_or s.rows at_row 0 ≡ code)
      go (first new e) = absurd (old (h.holds.marked.unseen code new))
      go (again i a e) =
          let seen = h.holds.marked.seen code i a in
          let mark : at_row ≡ 4 * i = omega (arith, seen) in
          let long : length s.rows ≡ length h.lent = holds_long h.holds in
          let same : length s.rows / 4 ≡ length h.lent / 4 = ap (λ (n : ℕ). n / 4) long in
          let has : i < length h.lent / 4 = omega (arith, seen) in
          let few = of_code_fits code h.before in
          let parts = ap (λ (n : ℕ). get_or s.rows (n + 1) 0) mark ∙ holds_parts h.holds code i a has in
          let value = ap (λ (n : ℕ). get_or s.rows (n + 2) 0) mark ∙ holds_len h.holds code i a has in (
            record { there = omega (arith, seen); parts = omega (arith, few.0, h.few); value = omega (arith, few.1, h.few) },
            ap (λ (n : ℕ). get_or s.rows n 0) mark ∙ holds_code h.holds code i a has,
          )

-- what is left of a field gives, from where a loop over it stands, the same end
pub record Going (bytes : List ℕ) (end : Sheet) (s : Sheet) (at : ℕ) : Type 0 where
  pub lent : List ℕ
  pub before : List Portion
  pub holds : Holds lent before s
  pub coded : Coded before
  pub parts : List Portion
  pub left : portions at (drop at bytes) ≡ whole parts
  pub few : length before + length (joined_value before) + (length bytes - at) ≤ 4 * most_bytes
  pub same : fills s parts ≡ end

pub going_all : (bytes : List ℕ) (start : ℕ) (s : Sheet) → Fills bytes start s
    → Going bytes (fills s (parts_in (portions start (drop start bytes)))) s start
going_all bytes start s h =
    record {
      lent = h.lent;
      before = h.before;
      holds = h.holds;
      coded = h.coded;
      parts = h.parts;
      left = h.uncut;
      few = omega (arith, h.few);
      same = sym (ap (fills s) (parts_whole h.uncut));
    }

module _ {bytes : List ℕ} {end : Sheet} {s : Sheet} {at : ℕ} (g : Going bytes end s at) where
  pub going_out : g.parts ≡ [] → s ≡ end
  unfolding fills
  going_out e = sym (ap (fills s) e) ∙ g.same

  -- the first part that is left can be put, and is put
  module _ (b : Bytes bytes) {code len place : ℕ} (f : FirstLeft bytes at g.parts code len place) where
    abbrev p : Portion
    p = portion code f.value place

    one : Coded (p ∷ f.rest)
    one = subst Coded f.is (coded_field at bytes g.parts b g.left)

    all : Coded (g.before ++ p ∷ [])
    all = coded_append g.before (p ∷ []) g.coded (one.0, tt)

    pub going_puts : Puts s code len
    going_puts =
        record {
          lent = g.lent;
          before = g.before;
          holds = g.holds;
          small = fresh (further g.before p);
          few = omega (arith, g.few, f.behind, f.within);
        }
      where
        fresh : Further g.before p → get_or s.marks code 0 ≡ 0 → s.codes < 254
        fresh (first new e) z =
            omega (arith, few_listed (g.before ++ p ∷ []) all, ap length e, length-append (codes_of g.before) (code ∷ []), g.holds.counted)
        fresh (again i a e) z = absurd (omega (arith, g.holds.marked.seen code i a))

    pub going_more : (r : Sheet) → r ≡ puts s code len place → Going bytes end r place
    unfolding fills
    going_more r e =
        let put : r ≡ puts s code (length f.value) place = e ∙ ap (λ (n : ℕ). puts s code n place) (sym f.long) in
        record {
          lent = g.lent;
          before = g.before ++ p ∷ [];
          holds =
              subst (Holds g.lent (g.before ++ p ∷ [])) (sym put) (holds_more g.before g.holds p (omega (arith, one.0.1)));
          coded = all;
          parts = f.rest;
          left = f.left;
          few = omega (arith, g.few, f.behind, f.within, f.long, length-append g.before (p ∷ []), joined_more g.before p);
          same = ap (λ (t : Sheet). fills t f.rest) put ∙ sym (ap (fills s) f.is) ∙ g.same;
        }

-- the sheet behind these parts, which took so many bytes and no more
pub record Sofar (lent : List ℕ) (ps : List Portion) (most : ℕ) (s : Sheet) : Type 0 where
  pub holds : Holds lent ps s
  pub coded : Coded ps
  pub few : length ps + length (joined_value ps) ≤ most

pub sofar_none : (lent : List ℕ) → Sofar lent [] 0 (sheet (replicate 256 0) lent 0)
sofar_none lent = record { holds = holds_none lent; coded = tt; few = omega (arith, joined_both [] []) }

-- and behind those of a field, which could be filled in
module _ {lent : List ℕ} {ps qs : List Portion} {most : ℕ} {s : Sheet} (start : ℕ) (bytes : List ℕ) (h : Sofar lent ps most s)
    (uncut : portions start (drop start bytes) ≡ whole qs) where
  pub sofar_fills : most + length bytes ≤ 4 * most_bytes → Fills bytes start s
  sofar_fills short =
      record {
        lent = lent;
        before = ps;
        holds = h.holds;
        coded = h.coded;
        parts = qs;
        uncut = uncut;
        few = omega (arith, h.few);
      }

  pub sofar_more : Bytes bytes → {r : Sheet} → r ≡ fills s (parts_in (portions start (drop start bytes)))
      → Sofar lent (ps ++ qs) (most + length bytes) r
  sofar_more b {r} e =
      let c : Coded qs = coded_field start bytes qs b uncut in
      record {
        holds = subst (Holds lent (ps ++ qs)) (sym (e ∙ ap (fills s) (parts_whole uncut))) (holds_all ps h.holds qs c);
        coded = coded_append ps qs h.coded c;
        few =
            omega (
              arith,
              h.few,
              length-append ps qs,
              joined_both ps qs,
              fits_field start (drop start bytes) qs uncut,
              length-drop start bytes,
            );
      }

-- of all parts of a message
pub sofar_all : {lent : List ℕ} {ps : List Portion} {most : ℕ} {s : Sheet} (message : List ℕ) → Sofar lent ps most s
    → aggregate (fields_of message) ≡ ps → FillsAll message lent s.rows s.codes
sofar_all {lent} {ps} message h e =
    record {
      kept = h.holds.filled ∙ ap (λ (l : List Portion). over lent 0 (entry_rows (length lent / 4) (options_from l))) (sym e);
      told = h.holds.counted ∙ ap (λ (l : List Portion). length (codes_of l)) (sym e);
    }

-- the three fields of a message that is read, one after the other
module _ (message lent : List ℕ) {named : ℕ} (o : Open message named) {at : Spans} (e : at ≡ spans_of message named) where
  reads : Reads message named
  reads = opens message named o

  pub file_there : at.file ≡ length (take at.file message)
  file_there = (file_front reads e).0

  pub sname_there : at.sname ≡ length (take at.sname message)
  sname_there = (sname_front reads e).0

  pub options_fill : Fills message at.options (sheet (replicate 256 0) lent 0)
  options_fill = sofar_fills at.options message (sofar_none lent) (options_at reads e) (omega (arith, reads.most))

  module _ (b : Bytes message) {s : Sheet}
      (put : s ≡ fills (sheet (replicate 256 0) lent 0) (parts_in (portions at.options (drop at.options message)))) where
    in-options : Sofar lent reads.in-options (0 + length message) s
    in-options = sofar_more at.options message (sofar_none lent) (options_at reads e) b put

    pub file_fill : Fills (take at.file message) 108 s
    file_fill =
        let f = file_front reads e in sofar_fills 108 (take at.file message) in-options (file_at reads e) (omega (arith, reads.most, f))

    module _ {s' : Sheet} (put_file : s' ≡ fills s (parts_in (portions 108 (drop 108 (take at.file message))))) where
      in_file : Sofar lent (reads.in-options ++ reads.in_file) (0 + length message + length (take at.file message)) s'
      in_file = sofar_more 108 (take at.file message) in-options (file_at reads e) (bytes_take at.file message b) put_file

      pub sname_fill : Fills (take at.sname message) 44 s'
      sname_fill =
          let f = file_front reads e in
          let g = sname_front reads e in
          sofar_fills 44 (take at.sname message) in_file (sname_at reads e) (omega (arith, reads.most, f, g))

      pub all_filled : {r : Sheet} → r ≡ fills s' (parts_in (portions 44 (drop 44 (take at.sname message)))) → FillsAll message lent r.rows r.codes
      all_filled put_sname =
          sofar_all message
          (sofar_more 44 (take at.sname message) in_file (sname_at reads e) (bytes_take at.sname message b) put_sname) reads.all
