-- The width of a character, as the code finds it: a first byte, enough bytes behind it, then each tested for its range.
-- Assumes nothing.
use mathlib.Core.Option.{none, some}
use Rattle.std.proofs.Common.{◌≡◌, ◌∙◌, sym, Bool, false, true, List, [], ◌∷◌, ℕ, suc, ◌+◌, ◌≤◌, ◌<◌, length, drop, get_or, ap, arith}
use Rattle.facts.specs.Ranges.{within}
use Rattle.rfc.specs.Text.{Range, range, lead, utf8}
use Rattle.rfc.proofs.Text.{Reached, begun, followed, passed, not_begun, not_followed, cut_short}
use Rattle.text.specs.Width.{Asks, Character}

-- no form begins with the byte
pub none_there : (text : List ℕ) → 0 < length text → lead (get_or text 0 0) ≡ none → utf8 text ≡ false
none_there text h e = not_begun {text = text} {at = 0} (begun h e)

module _ {text : List ℕ} where
  -- a whole character
  pub one_there : {n : ℕ} → Reached text 0 (suc n) (some []) → Character text (suc n)
  one_there {n} r =
      record {
        some = omega arith;
        inside = omega (arith, r.inside);
        passed = let n : 0 + suc n ≡ suc n = omega arith in passed r ∙ ap (λ (k : ℕ). utf8 (drop k text)) n;
      }

  module _ {ranges : List Range} where
    -- the first byte is there
    pub asked : Asks text ranges → Reached text 0 1 (some ranges)
    asked a = begun a.there a.leads

    -- the text ends before all that it asks for
    pub cut : Asks text ranges → length text ≤ length ranges → utf8 text ≡ false
    cut a h = cut_short (asked a) (omega arith)

    -- a byte that has to follow, as the code asks for it
    module _ {low high n : ℕ} {answer : Bool} (r : Reached text 0 n (some (range low high ∷ ranges))) (there : n < length text)
        (told : answer ≡ within low high (get_or text (0 + n) 0)) where
      pub on : answer ≡ true → Reached text 0 (n + 1) (some ranges)
      on e = followed r (omega arith) (sym told ∙ e)

      pub off : answer ≡ false → utf8 text ≡ false
      off e = not_followed r (omega arith) (sym told ∙ e)
