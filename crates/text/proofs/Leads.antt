-- What the first bytes of four ask for, which the code tests together with the second bytes.
-- Assumes nothing.
use mathlib.Core.Option.{some}
use native.Mathlib.Decide.{dec_le}
use Rattle.std.proofs.Common.{◌≡◌, false, true, IsTrue, ◌↔◌, Bool, List, [], ◌∷◌, ℕ, ◌≤◌, ◌<◌, length, get_or, arith}
use Rattle.facts.specs.Ranges.{within}
use Rattle.facts.proofs.Ranges.{inside, above, below}
use Rattle.rfc.specs.Text.{range, tail, lead, utf8}
use Rattle.rfc.proofs.Text.{lead_f0, lead_f1_f3, lead_f4, lead_f5_on, Reached, begun, followed, not_followed}
use Rattle.text.specs.Width.{Four}
use Rattle.text.proofs.Widths.{none_there, cut}

-- a first byte of four: what it asks for, which is what the two bytes together are tested for
record Leads (b : ℕ) : Type 0 where
  low : ℕ
  high : ℕ
  leads : lead b ≡ some (range low high ∷ tail ∷ tail ∷ [])
  only : (c : ℕ) → low ≤ c → c ≤ high → Four b c
  all : (c : ℕ) → Four b c → (low ≤ c) × (c ≤ high)

leads_four : (b : ℕ) → 0xf0 ≤ b → b ≤ 0xf4 → Leads b
leads_four b p q = by (dec_le b 0xf0) (dec_le b 0xf3)
  where
    by : Dec (b ≤ 0xf0) → Dec (b ≤ 0xf3) → Leads b
    by (yes u) v =
        record {
          low = 0x90;
          high = 0xbf;
          leads = lead_f0 b (omega arith);
          only = λ c l h. (omega arith, omega arith, omega arith, omega arith);
          all = λ c f. (omega arith, omega arith);
        }
    by (no u) (yes v) =
        record {
          low = 0x80;
          high = 0xbf;
          leads = lead_f1_f3 b (omega arith) v;
          only = λ c l h. (omega arith, omega arith, omega arith, omega arith);
          all = λ c f. (omega arith, omega arith);
        }
    by (no u) (no v) =
        record {
          low = 0x80;
          high = 0x8f;
          leads = lead_f4 b (omega arith);
          only = λ c l h. (omega arith, omega arith, omega arith, omega arith);
          all = λ c f. (omega arith, omega arith);
        }

-- a text that such a byte begins, or one above
module _ (text : List ℕ) (begins : (0 < length text) × (0xf0 ≤ get_or text 0 0)) where
  abbrev b : ℕ
  b = get_or text 0 0

  abbrev c : ℕ
  c = get_or text 1 0

  -- the text ends before four bytes
  pub four_cut : length text < 4 → utf8 text ≡ false
  four_cut h = by (dec_le b 0xf4)
    where
      by : Dec (b ≤ 0xf4) → utf8 text ≡ false
      by (yes u) = cut (record { there = begins.0; leads = (leads_four b begins.1 u).leads }) (omega arith)
      by (no u) = none_there text begins.0 (lead_f5_on b (omega arith))

  -- the second byte is right, or not, as the code asks for it
  module _ {answer : Bool} (next : 1 < length text) (told : IsTrue answer ↔ Four b c) where
    pub four_on : answer ≡ true → Reached text 0 2 (some (tail ∷ tail ∷ []))
    four_on e =
        let f = told.0 e in
        let l = leads_four b begins.1 (omega (arith, f.2, f.3)) in
        followed (begun {at = 0} begins.0 l.leads) (omega arith) (inside _ _ _ (l.all c f).0 (l.all c f).1)

    pub four_off : answer ≡ false → utf8 text ≡ false
    four_off e = by (dec_le b 0xf4)
      where
        no_four : Four b c → ⊥
        no_four f = let t : answer ≡ true = told.1 f in cc

        wrong : (l : Leads b) → Dec (l.low ≤ c) → Dec (c ≤ l.high) → within l.low l.high c ≡ false
        wrong l (yes u) (yes v) = absurd (no_four (l.only c u v))
        wrong l (yes u) (no v) = above _ _ _ (omega arith)
        wrong l (no u) v = below _ _ _ (omega arith)

        by : Dec (b ≤ 0xf4) → utf8 text ≡ false
        by (yes u) =
            let l = leads_four b begins.1 u in
            not_followed (begun {at = 0} begins.0 l.leads) (omega arith) (wrong l (dec_le l.low c) (dec_le c l.high))
        by (no u) = none_there text begins.0 (lead_f5_on b (omega arith))
