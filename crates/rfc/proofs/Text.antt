-- The laws of `specs/Text.antt`: what each first byte asks for, and how a text goes on from a place, byte by byte.
-- Assumes nothing.
use mathlib.Core.Path.{◌≡◌, refl, ap, ◌∙◌}
use mathlib.Core.Bool.{Bool, true, false, cond}
use mathlib.Core.List.{List, [], ◌∷◌}
use mathlib.Core.Option.{Option, none, some}
use Prim.Native.Nat.{ℕ, ◌+◌, ◌≤◌, ◌<◌}
use native.Mathlib.Decide.{dec_le}
use native.Mathlib.Numerals.{add-one}
use native.Mathlib.Omega.{arith}
use lib.ListN.{length, drop, get_or, drop_of_length-le, length-drop}
use lib.Seq.{drop-cons}
use Rattle.facts.specs.Ranges.{within}
use Rattle.facts.proofs.Ranges.{uniform, one_answer}
use Rattle.rfc.specs.Text.{Range, range, tail, forms, lead, owes, whole, utf8_from, utf8}

-- what has to follow a first byte, a law for each row and for the two gaps
module _ (b : ℕ) where
  in_row : (low high : ℕ) (owed : Option (List Range)) → low ≤ b → b ≤ high → uniform none forms low high ≡ some owed → lead b ≡ owed
  unfolding lead
  in_row low high owed p q e = one_answer none low high b p q forms owed e

  pub lead_00_7f : b ≤ 0x7f → lead b ≡ some []
  unfolding forms
  lead_00_7f q = in_row 0x00 0x7f _ (omega arith) q refl

  pub lead_80_c1 : 0x80 ≤ b → b ≤ 0xc1 → lead b ≡ none
  unfolding forms
  lead_80_c1 p q = in_row 0x80 0xc1 _ p q refl

  pub lead_c2_df : 0xc2 ≤ b → b ≤ 0xdf → lead b ≡ some (tail ∷ [])
  unfolding forms
  lead_c2_df p q = in_row 0xc2 0xdf _ p q refl

  pub lead_e0 : b ≡ 0xe0 → lead b ≡ some (range 0xa0 0xbf ∷ tail ∷ [])
  unfolding forms
  lead_e0 e = in_row 0xe0 0xe0 _ (omega arith) (omega arith) refl

  pub lead_e1_ec : 0xe1 ≤ b → b ≤ 0xec → lead b ≡ some (tail ∷ tail ∷ [])
  unfolding forms
  lead_e1_ec p q = in_row 0xe1 0xec _ p q refl

  pub lead_ed : b ≡ 0xed → lead b ≡ some (range 0x80 0x9f ∷ tail ∷ [])
  unfolding forms
  lead_ed e = in_row 0xed 0xed _ (omega arith) (omega arith) refl

  pub lead_ee_ef : 0xee ≤ b → b ≤ 0xef → lead b ≡ some (tail ∷ tail ∷ [])
  unfolding forms
  lead_ee_ef p q = in_row 0xee 0xef _ p q refl

  -- the two rows of three that leave out no byte of UTF8-tail
  pub lead_e1_ef : 0xe1 ≤ b → b ≤ 0xef → (b ≡ 0xed → ⊥) → lead b ≡ some (tail ∷ tail ∷ [])
  lead_e1_ef p q n = by (dec_le b 0xec)
    where
      by : Dec (b ≤ 0xec) → lead b ≡ some (tail ∷ tail ∷ [])
      by (yes u) = lead_e1_ec p u
      by (no u) = lead_ee_ef (omega arith) q

  pub lead_f0 : b ≡ 0xf0 → lead b ≡ some (range 0x90 0xbf ∷ tail ∷ tail ∷ [])
  unfolding forms
  lead_f0 e = in_row 0xf0 0xf0 _ (omega arith) (omega arith) refl

  pub lead_f1_f3 : 0xf1 ≤ b → b ≤ 0xf3 → lead b ≡ some (tail ∷ tail ∷ tail ∷ [])
  unfolding forms
  lead_f1_f3 p q = in_row 0xf1 0xf3 _ p q refl

  pub lead_f4 : b ≡ 0xf4 → lead b ≡ some (range 0x80 0x8f ∷ tail ∷ tail ∷ [])
  unfolding forms
  lead_f4 e = in_row 0xf4 0xf4 _ (omega arith) (omega arith) refl

  pub lead_f5_on : 0xf5 ≤ b → lead b ≡ none
  unfolding forms
  lead_f5_on p = in_row 0xf5 b _ p (omega arith) refl

-- no text is right after a wrong byte
wrong : (bytes : List ℕ) → utf8_from none bytes ≡ false
unfolding utf8_from owes whole
wrong [] = refl
wrong (b ∷ bytes) = wrong bytes

-- no text is right that ends before all that has to follow
short : (ranges : List Range) (bytes : List ℕ) → length bytes < length ranges → utf8_from (some ranges) bytes ≡ false
unfolding utf8_from owes whole
short [] bytes h = absurd (omega arith)
short (r ∷ ranges) [] h = refl
short (range low high ∷ ranges) (b ∷ bytes) h = by (short ranges bytes (omega arith)) (within low high b)
  where
    by : utf8_from (some ranges) bytes ≡ false → (t : Bool) → utf8_from (cond t (some ranges) none) bytes ≡ false
    by e true = e
    by e false = wrong bytes

-- a text that has ended is right
pub ended : (text : List ℕ) (at : ℕ) → length text ≤ at → utf8 (drop at text) ≡ true
unfolding utf8 utf8_from whole
ended text at h = rw (drop_of_length-le text h)

-- `n` bytes from `at` on have been read: whether the text from there on is right is now whether the rest is, with so much owed
pub record Reached (text : List ℕ) (at n : ℕ) (owed : Option (List Range)) : Type 0 where
  pub inside : at + n ≤ length text
  pub same : utf8 (drop at text) ≡ utf8_from owed (drop (at + n) text)

-- a byte more
one : (text : List ℕ) (i : ℕ) (owed : Option (List Range)) → i < length text
    → utf8_from owed (drop i text) ≡ utf8_from (owes owed (get_or text i 0)) (drop (i + 1) text)
unfolding utf8_from
one text i owed h = rw (add-one, drop-cons text i 0 h)

-- a first byte
pub begun : {text : List ℕ} {at : ℕ} {owed : Option (List Range)} → at < length text → lead (get_or text at 0) ≡ owed → Reached text at 1 owed
unfolding utf8 owes
begun {text} {at} h e = record { inside = omega arith; same = one text at (some []) h ∙ rw e }

module _ {text : List ℕ} {at n : ℕ} where
  -- a character is whole
  pub passed : Reached text at n (some []) → utf8 (drop at text) ≡ utf8 (drop (at + n) text)
  unfolding utf8
  passed r = r.same

  -- no character begins so
  pub not_begun : Reached text at n none → utf8 (drop at text) ≡ false
  not_begun r = r.same ∙ wrong _

  -- the text ends before all that has to follow
  pub cut_short : {ranges : List Range} → Reached text at n (some ranges) → length text < at + n + length ranges
      → utf8 (drop at text) ≡ false
  cut_short {ranges} r h = r.same ∙ short ranges (drop (at + n) text) (omega (arith, r.inside, length-drop (at + n) text))

  -- a byte stands where one has to follow: it is the right one, or another
  module _ {low high : ℕ} {ranges : List Range} (r : Reached text at n (some (range low high ∷ ranges)))
      (there : at + n < length text) where
    pub followed : within low high (get_or text (at + n) 0) ≡ true → Reached text at (n + 1) (some ranges)
    unfolding owes
    followed e =
        let p : at + n + 1 ≡ at + (n + 1) = omega arith in
        record {
          inside = omega arith;
          same = r.same ∙ one text (at + n) _ there ∙ rw e (ap (λ (i : ℕ). utf8_from (some ranges) (drop i text)) p);
        }

    pub not_followed : within low high (get_or text (at + n) 0) ≡ false → utf8 (drop at text) ≡ false
    unfolding owes
    not_followed e = r.same ∙ one text (at + n) _ there ∙ rw e (wrong (drop (at + n + 1) text))
