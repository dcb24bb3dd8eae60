-- The laws of `specs/Marked.antt`: after some parts the marks say which codes were seen, and the one that is kept is the one at the index.
-- Assumes nothing.
use mathlib.Core.Path.{◌≡◌, refl, sym, ap, subst, ◌∙◌}
use Prim.Native.Nat.{ℕ, ◌+◌, ◌-◌, ◌≤◌, ◌<◌}
use native.Mathlib.Omega.{arith}
use native.Mathlib.Decide.{dec_le, ℕ_discrete}
use mathlib.Core.List.{List, [], ◌∷◌, ◌++◌, append-nil}
use mathlib.Core.Bool.{cond}
use lib.Dec.{eqb}
use lib.ListN.{length, drop, get_or, set, replicate, length-append, length-set, length-replicate, get_or-append, get_or-eq_default}
use lib.Seq.{append_snoc, get_or_at}
use borrow.Author.Tests.{eq-eqb, ne_eqb}
use Rattle.facts.specs.Over.{over}
use Rattle.facts.proofs.Over.{set_over}
use Rattle.facts.proofs.Distinct.{At}
use Rattle.facts.proofs.Marks.{Marked, marked_none, marked_length, marked_more}
use Rattle.rfc.specs.Numbers.{most_bytes}
use Rattle.rfc.specs.Portions.{Portion, whole, portions, parts_in}
use Rattle.rfc.specs.Aggregate.{codes_of}
use Rattle.rfc.specs.Lists.{Bytes}
use Rattle.rfc.proofs.Portions.{parts_whole}
use Rattle.rfc.proofs.Listed.{codes_none, Further, again, first, further, Coded, coded_append, coded_field, few_listed}
use Rattle.portions.proofs.Left.{FirstLeft}
use Rattle.aggregate.specs.Marked.{Marks, marked, sees, Sees}

-- the codes that were seen are marked with 1
pub record Says (index : ℕ) (codes : List ℕ) (s : Marks) : Type 0 where
  pub each : length s.0 ≡ 256
  pub marks : Marked (λ (i : ℕ). 1) codes s.0
  pub counted : s.1.codes ≡ length codes
  pub kept : s.1.code ≡ get_or codes index 0

-- a code that is new
module _ {index : ℕ} {codes : List ℕ} {s : Marks} (h : Says index codes s) (code : ℕ) (small : code < 256)
    (new : (i : ℕ) → At code i codes → ⊥) where
  there : code < length s.0
  there = omega (arith, h.each)

  keeps : cond (eqb s.1.codes index) code s.1.code ≡ get_or (codes ++ code ∷ []) index 0
  keeps = go (ℕ_discrete s.1.codes index) (dec_le (length codes) index)
    where
      go : Dec (s.1.codes ≡ index) → Dec (length codes ≤ index)
          → cond (eqb s.1.codes index) code s.1.code ≡ get_or (codes ++ code ∷ []) index 0
      go (yes e) d = rw (eq-eqb s.1.codes index e) (sym (get_or_at codes code [] 0 index (sym h.counted ∙ e)))
      go (no e) (yes g) =
          let past : length codes < index = omega (arith, h.counted) in
          rw (ne_eqb s.1.codes index e)
          (h.kept ∙ get_or-eq_default codes 0 g
          ∙ sym (get_or-eq_default (codes ++ code ∷ []) 0 (omega (arith, length-append codes (code ∷ [])))))
      go (no e) (no g) = rw (ne_eqb s.1.codes index e) (h.kept ∙ sym (get_or-append codes (code ∷ []) 0 index (omega arith)))

  says_new : Says index (codes ++ code ∷ []) (marked index s code)
  unfolding marked
  says_new =
      rw (eq-eqb (get_or s.0 code 0) 0 (h.marks.unseen code new))
      (record {
        each = marked_length h.marks code there new ∙ h.each;
        marks = marked_more h.marks code there new;
        counted = omega (arith, h.counted, length-append codes (code ∷ []));
        kept = keeps;
      })

says_more : {index : ℕ} {s : Marks} (ps : List Portion) → Says index (codes_of ps) s → (p : Portion) → p.code < 256
    → Says index (codes_of (ps ++ p ∷ [])) (marked index s p.code)
unfolding marked
says_more {index} {s} ps h p small = go (further ps p)
  where
    go : Further ps p → Says index (codes_of (ps ++ p ∷ [])) (marked index s p.code)
    go (again i a e) =
        rw (ne_eqb (get_or s.0 p.code 0) 0 (λ z. omega (arith, h.marks.seen p.code i a))) (subst (λ (l : List ℕ). Says index l s) (sym e) h)
    go (first n e) = subst (λ (l : List ℕ). Says index l (marked index s p.code)) (sym e) (says_new h p.code small n)

says_after : {index : ℕ} {s : Marks} (ps : List Portion) → Says index (codes_of ps) s → (qs : List Portion) → Coded qs
    → Says index (codes_of (ps ++ qs)) (sees index s qs)
unfolding sees
says_after {index} {s} ps h [] c = subst (λ (l : List Portion). Says index (codes_of l) s) (sym (append-nil ps)) h
says_after {index} {s} ps h (q ∷ qs) c =
    subst (λ (l : List Portion). Says index (codes_of l) (sees index (marked index s q.code) qs)) (append_snoc ps q qs)
    (says_after {s = marked index s q.code} (ps ++ q ∷ []) (says_more ps h q (omega (arith, c.0.1))) qs c.1)

says_none : (index : ℕ) → Says index (codes_of []) (replicate 256 0, record { codes = 0; code = 0 })
says_none index =
    rw codes_none (record { each = length-replicate {A = ℕ} 256 0; marks = marked_none (λ (i : ℕ). 1) 256; counted = refl; kept = refl })

-- the marks behind these parts
pub record Sofar (index : ℕ) (ps : List Portion) (s : Marks) : Type 0 where
  pub coded : Coded ps
  pub says : Says index (codes_of ps) s

pub sofar_none : (index : ℕ) → Sofar index [] (replicate 256 0, record { codes = 0; code = 0 })
sofar_none index = record { coded = tt; says = says_none index }

-- and behind those of a field, which was to be gone over
module _ {index : ℕ} {ps qs : List Portion} {s : Marks} (start : ℕ) (bytes : List ℕ) (h : Sofar index ps s)
    (uncut : portions start (drop start bytes) ≡ whole qs) where
  pub sofar_sees : length bytes ≤ most_bytes → Sees bytes start s.0 s.1
  sofar_sees short =
      record {
        parts = qs;
        uncut = uncut;
        each = h.says.each;
        few = omega (arith, h.says.counted, few_listed ps h.coded);
      }

  pub sofar_more : Bytes bytes → {r : Marks} → r ≡ sees index s (parts_in (portions start (drop start bytes))) → Sofar index (ps ++ qs) r
  sofar_more b {r} e =
      let c : Coded qs = coded_field start bytes qs b uncut in
      record {
        coded = coded_append ps qs h.coded c;
        says = subst (Says index (codes_of (ps ++ qs))) (sym (e ∙ ap (sees index s) (parts_whole uncut))) (says_after ps h.says qs c);
      }

-- what is left of a field gives, from where a loop over it stands, the same end
pub record Going (bytes : List ℕ) (index : ℕ) (end s : Marks) (at : ℕ) : Type 0 where
  pub parts : List Portion
  pub left : portions at (drop at bytes) ≡ whole parts
  pub each : length s.0 ≡ 256
  pub few : s.1.codes + (length bytes - at) ≤ most_bytes + most_bytes
  pub same : sees index s parts ≡ end

pub going_all : (bytes : List ℕ) (start index : ℕ) (s : Marks) → Sees bytes start s.0 s.1
    → Going bytes index (sees index s (parts_in (portions start (drop start bytes)))) s start
going_all bytes start index s h =
    record {
      parts = h.parts;
      left = h.uncut;
      each = h.each;
      few = omega (arith, h.few);
      same = sym (ap (sees index s) (parts_whole h.uncut));
    }

-- which code is kept
pub kept_here : (codes index code old : ℕ) → codes ≡ index → cond (eqb codes index) code old ≡ code
kept_here codes index code old e = rw (eq-eqb codes index e) refl

pub kept_before : (codes index code old : ℕ) → (codes ≡ index → ⊥) → cond (eqb codes index) code old ≡ old
kept_before codes index code old d = rw (ne_eqb codes index d) refl

module _ {bytes : List ℕ} {index : ℕ} {end s : Marks} {at : ℕ} (g : Going bytes index end s at) where
  pub going_out : g.parts ≡ [] → s ≡ end
  unfolding sees
  going_out e = sym (ap (sees index s) e) ∙ g.same

  -- a part whose code is new, and one whose code is not
  module _ {code len place : ℕ} (f : FirstLeft bytes at g.parts code len place) where
    further_on : sees index (marked index s code) f.rest ≡ end
    unfolding sees
    further_on = sym (ap (sees index s) f.is) ∙ g.same

    pub going_new : code < 256 → get_or s.0 code 0 ≡ 0 → (kept : ℕ) → kept ≡ cond (eqb s.1.codes index) code s.1.code
        → Going bytes index end (set s.0 code 1, record { codes = s.1.codes + 1; code = kept }) place
    unfolding marked
    going_new small new kept is =
        let marks : set s.0 code 1 ≡ over s.0 code (1 ∷ []) = set_over s.0 code 1 (omega (arith, g.each)) in
        record {
          parts = f.rest;
          left = f.left;
          each = length-set s.0 code 1 ∙ g.each;
          few = omega (arith, g.few, f.behind, f.within);
          same =
              (λ i. sees index (marks i, record { codes = s.1.codes + 1; code = is i }) f.rest)
              ∙ (rw (eq-eqb (get_or s.0 code 0) 0 new) at further_on);
        }

    pub going_old : (get_or s.0 code 0 ≡ 0 → ⊥) → Going bytes index end s place
    unfolding marked
    going_old old =
        record {
          parts = f.rest;
          left = f.left;
          each = g.each;
          few = omega (arith, g.few, f.behind, f.within);
          same = rw (ne_eqb (get_or s.0 code 0) 0 old) at further_on;
        }
