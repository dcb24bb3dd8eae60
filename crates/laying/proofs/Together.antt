-- Two passes over the rows of a value answer and leave what the definition of its write says. Proved once, for any rows, code and size of a
-- part.
-- Assumes nothing.
use mathlib.Core.Path.{◌≡◌, refl, sym, ap, ◌∙◌}
use Prim.Native.Nat.{ℕ, suc, ◌+◌, ◌≤◌, ◌<◌, min}
use mathlib.Core.List.{List, foldl}
use native.Mathlib.Omega.{arith}
use native.Mathlib.Decide.{dec_le}
use lib.ListN.{length}
use Rattle.std.specs.Prelude.{Some, is_some, Result, Err}
use Rattle.rfc.specs.Numbers.{given, refused, most_bytes, most_value}
use Rattle.rfc.specs.Writing.{Write, encode, answer_to}
use Rattle.rfc.specs.Strung.{RowMade, all_checks, all_bytes}
use Rattle.rfc.proofs.Numbers.{Clear}
use Rattle.rfc.proofs.Writing.{length_encode}
use Rattle.rfc.proofs.Strung.{Decides}
use Rattle.refusal.specs.declared.Refusal.{Refusal}
use Rattle.refusal.specs.declared.Refusal.TheVariants.{TooLong, PastEnd, ValueTooLong, NoRoom}
use Rattle.refusal.specs.Told.{refusal_of, says}
use Rattle.refusal.proofs.Told.{says_refusal}
use Rattle.encoder.specs.Written.{Wrote}
use Rattle.encoder.proofs.Answers.{refuses, writes}
use Rattle.laying.specs.Passes.{State, first, refuse, with_len, gauged, begun, turned, put, answered, laid, EachKnown}
use Rattle.laying.specs.declared.Pass.{Pass}
use Rattle.laying.proofs.Passes.{Refused, Going, not_both, begun_2, begun_4, begun_first, turned_refused, turned_7, turned_8, turned_over}
use Rattle.laying.proofs.Passes.{answered_refused, answered_given}
use Rattle.laying.proofs.Puts.{puts_value, puts_keep}
use Rattle.laying.proofs.Measured.{none_gauged, Measures, bad, good, all_measured}

module _ (w : Write) (most code : ℕ) (ms : List RowMade) (room : List ℕ) (place : ℕ) where
  abbrev value : List ℕ
  value = all_bytes ms

  abbrev n : ℕ
  n = length room

  -- an answer, and what the room then holds, as the write says
  abbrev pub Done : Result ℕ Refusal × List ℕ → Type 0
  Done d = Wrote w room d.1 place d.0

  -- by what stands between the passes: a refusal, or nothing is refused and the value is put
  stops : (p q : Pass) (e : Refusal) (k : ℕ) → turned (foldl gauged p ms) n ≡ q → q.refusal ≡ Some e → says {A = ℕ} e ≡ refused k
      → answer_to w room place ≡ refused k → Done (laid p ms room)
  unfolding laid
  stops p q e k t r s a = rw (t, ap is_some r, answered_refused q e r) (refuses w room place e k s a)

  goes : (p q : Pass) → turned (foldl gauged p ms) n ≡ q → Going q → let d = foldl put (q, room) value in Done (answered d.0, d.1)
      → Done (laid p ms room)
  unfolding laid
  goes p q t g d = rw (t, g) d

  -- a pass that has refused before the first row
  pub refused_before : (p : Pass) (e : Refusal) (k : ℕ) → p.refusal ≡ Some e → says {A = ℕ} e ≡ refused k
      → answer_to w room place ≡ refused k → Done (laid p ms room)
  refused_before p e k r s a =
      let h : Refused p = ap is_some r in
      stops p p e k (ap (λ (q : Pass). turned q n) (none_gauged ms p h) ∙ turned_refused p n h) r s a

  module _ (some : 0 < most) (decides : Decides w most code ms room place) where
    abbrev start : Pass
    start = first place code most

    module _ (clear : Clear (all_checks ms)) where
      module _ (little : length value ≤ most_value) (is : foldl gauged start ms ≡ with_len (length value) start) where
        abbrev p : Pass
        p = with_len (length value) start

        puts : place + length (encode most code value) ≤ n → let d = foldl put (p, room) value in Done (answered d.0, d.1)
        puts fits =
            let d : State = (p, room) in
            let r = puts_value value d some refl refl fits in
            let g : Going (foldl put d value).0 = ap is_some (puts_keep value d) in
            rw (answered_given (foldl put d value).0 g)
            (writes w room place (foldl put d value).1 (foldl put d value).0.at
            (decides.to clear little fits ∙ ap given (sym r.to)) (decides.left clear little fits ∙ sym r.left))

        by_room : Dec (place + length (encode most code value) ≤ n) → Done (laid start ms room)
        by_room (yes fits) =
            goes start p
            (ap (λ (q : Pass). turned q n) is ∙ turned_over p n refl little (omega (arith, length_encode most some code value))) refl
            (puts fits)
        by_room (no full) =
            stops start (refuse NoRoom p) NoRoom 8
            (ap (λ (q : Pass). turned q n) is ∙ turned_8 p n refl little (omega (arith, length_encode most some code value))) refl refl
            (decides.by_8 clear little (omega arith))

      -- m bytes were counted
      by_length : (m : ℕ) → foldl gauged start ms ≡ with_len m start → min (suc most_value) m ≡ min (suc most_value) (0 + length value)
          → Dec (length value ≤ most_value) → Done (laid start ms room)
      by_length m is c (yes little) =
          let e : m ≡ length value = omega arith in
          by_room little (is ∙ ap (λ (k : ℕ). with_len k start) e) (dec_le (place + length (encode most code value)) n)
      by_length m is c (no much) =
          let p : Pass = with_len m start in
          stops start (refuse ValueTooLong p) ValueTooLong 7
          (ap (λ (q : Pass). turned q n) is ∙ turned_7 p n refl (omega arith)) refl refl (decides.by_7 clear (omega arith))

    by_rows : Measures ms start (foldl gauged start ms) → Done (laid start ms room)
    by_rows (bad k b r e) =
        stops start (foldl gauged start ms) (refusal_of k) k (turned_refused (foldl gauged start ms) n (ap is_some e)) e (says_refusal k b)
        (decides.by_row k r)
    by_rows (good clear k e c) = by_length clear k e c (dec_le (length value) most_value)

    pub from_first : EachKnown ms → Done (laid start ms room)
    from_first known = by_rows (all_measured ms known start refl)

  -- before the first pass: 2 and 4 of the room, or all is ready
  module _ (p : Pass) (e : p ≡ begun n place code most) where
    pub begun_ready : Going p → (n ≤ most_bytes) × (place ≤ n) × (p ≡ first place code most)
    begun_ready h = go (dec_le n most_bytes) (dec_le place n)
      where
        go : Dec (n ≤ most_bytes) → Dec (place ≤ n) → (n ≤ most_bytes) × (place ≤ n) × (p ≡ first place code most)
        go (yes short) (yes within) = (short, within, e ∙ begun_first n place code most short within)
        go (yes short) (no outside) =
            absurd (not_both p (ap (λ (q : Pass). is_some q.refusal) (e ∙ begun_4 n place code most short (omega arith))) h)
        go (no long) within =
            absurd (not_both p (ap (λ (q : Pass). is_some q.refusal) (e ∙ begun_2 n place code most (omega arith))) h)

    module _ (by_2 : most_bytes < n → answer_to w room place ≡ refused 2)
        (by_4 : n ≤ most_bytes → n < place → answer_to w room place ≡ refused 4) where
      pub begun_stops : (r : Refusal) → p.refusal ≡ Some r → Done (Err r, room)
      begun_stops r is = go (dec_le n most_bytes) (dec_le place n)
        where
          by : (k : ℕ) (q : Pass) (f : Refusal) → p ≡ q → q.refusal ≡ Some f → says {A = ℕ} f ≡ refused k → answer_to w room place ≡ refused k
              → Done (Err r, room)
          by k q f same has s a =
              let one : f ≡ r = let both = sym has ∙ sym (ap (λ (x : Pass). x.refusal) same) ∙ is in cc in
              rw (← one) (refuses w room place f k s a)

          go : Dec (n ≤ most_bytes) → Dec (place ≤ n) → Done (Err r, room)
          go (yes short) (yes within) =
              absurd (not_both p (ap is_some is) (ap (λ (q : Pass). is_some q.refusal) (e ∙ begun_first n place code most short within)))
          go (yes short) (no outside) =
              by 4 (refuse PastEnd (first place code most)) PastEnd (e ∙ begun_4 n place code most short (omega arith)) refl refl
              (by_4 short (omega arith))
          go (no long) within =
              by 2 (refuse TooLong (first place code most)) TooLong (e ∙ begun_2 n place code most (omega arith)) refl refl (by_2 (omega arith))

      -- so both passes, from there on
      pub both_passes : 0 < most → EachKnown ms → (n ≤ most_bytes → place ≤ n → Decides w most code ms room place) → Done (laid p ms room)
      both_passes some known decides = go (dec_le n most_bytes) (dec_le place n)
        where
          go : Dec (n ≤ most_bytes) → Dec (place ≤ n) → Done (laid p ms room)
          go (yes short) (yes within) =
              rw (e ∙ begun_first n place code most short within) (from_first some (decides short within) known)
          go (yes short) (no outside) =
              refused_before p PastEnd 4 (ap (λ (q : Pass). q.refusal) (e ∙ begun_4 n place code most short (omega arith))) refl
              (by_4 short (omega arith))
          go (no long) within =
              refused_before p TooLong 2 (ap (λ (q : Pass). q.refusal) (e ∙ begun_2 n place code most (omega arith))) refl (by_2 (omega arith))
