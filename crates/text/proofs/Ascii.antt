-- Runs of ASCII bytes: how they are joined, and that each byte of one is a character by itself.
-- Assumes nothing.
use Rattle.std.proofs.Common.{◌≡◌, refl, ◌∙◌, sym, ap, Bool, true, false, ◌||◌, List, [], ◌∷◌, ◌++◌, ℕ, zero, suc, ◌+◌, ◌-◌, ◌≤◌, length, take, drop, take-append-drop, arith, MatchOption, Bor}
use Rattle.std.specs.Bool.{then_some}
use Rattle.std.proofs.Math.Seq.{take-add}
use Rattle.std.proofs.lemmas.Bool.{or_parts, or_from, ltb-false}
use Rattle.std.proofs.lemmas.List.{drop-drop, take_all}
use Rattle.std.proofs.lemmas.List.Folds.{list_any-append}
use Rattle.rfc.specs.Text.{utf8}
use Rattle.rfc.proofs.Text.{lead_00_7f, begun, passed}
use Rattle.text.specs.Ascii.{any_high, Passed, Stopped}

-- a text and one behind it
both : (a b : List ℕ) → any_high (a ++ b) ≡ (any_high a || any_high b)
both a b = list_any-append _ a b

-- a text that is cut
cut : (n : ℕ) (text : List ℕ) → any_high text ≡ (any_high (take n text) || any_high (drop n text))
cut n text = ap any_high (sym (take-append-drop n text)) ∙ both (take n text) (drop n text)

-- the front up to a place and what begins at another, which does not stand behind it
pub overlapping : (a b : ℕ) (text : List ℕ) → b ≤ a → (any_high (take a text) || any_high (drop b text)) ≡ any_high text
overlapping a b text h =
    let rest = drop b text in
    let more : a ≡ b + (a - b) = omega arith in
    let front : any_high (take a text) ≡ (any_high (take b text) || any_high (take (a - b) rest)) =
    ap (λ (n : ℕ). any_high (take n text)) more ∙ ap any_high (take-add b (a - b) text) ∙ both (take b text) (take (a - b) rest) in
    rw (front, cut b text, cut (a - b) rest) (twice (any_high (take b text)) (any_high (take (a - b) rest)) (any_high (drop (a - b) rest)))
  where
    twice : (x y z : Bool) → ((x || y) || (y || z)) ≡ (x || (y || z))
    twice true y z = refl
    twice false true z = refl
    twice false false z = refl

-- a run in front does not change whether the text is right
pub in-front : (n : ℕ) (text : List ℕ) → any_high (take n text) ≡ false → utf8 text ≡ utf8 (drop n text)
in-front zero text run = refl
in-front (suc n) [] run = refl
in-front (suc n) (b ∷ text) run =
    let parts = or_parts _ _ run in
    passed {text = b ∷ text} {at = 0} (begun (omega arith) (lead_00_7f b (ltb-false 0x7f b parts.0))) ∙ in-front n text parts.1

-- no block has been passed, and one more
pub one_more : (text rest : List ℕ) → Passed text rest → any_high (take 256 rest) ≡ false → Passed text (drop 256 rest)
one_more text rest p e =
    let at : ℕ = p.at in
    let block : any_high (take 256 (drop at text)) ≡ false = ap (λ (l : List ℕ). any_high (take 256 l)) (sym p.behind) ∙ e in
    record {
      at = at + 256;
      behind = ap (drop 256) p.behind ∙ drop-drop 256 at text;
      blocks = omega (arith, p.blocks);
      before = ap any_high (take-add at 256 text) ∙ both (take at text) (take 256 (drop at text)) ∙ or_from _ _ p.before block;
    }

-- what is left is ASCII too, or it is the block that is not
pub last : (text : List ℕ) (rest : Bor (List ℕ)) (high : Bool) → high ≡ any_high rest.now → Passed text rest.now → length rest.now ≤ 256
    → MatchOption (then_some high rest) (any_high text ≡ false) (λ r. Stopped text r.now)
last text rest true e p h = record { passed = p; other = ap any_high (take_all 256 rest.now h) ∙ sym e }
last text rest false e p h = cut p.at text ∙ or_from _ _ p.before (ap any_high (sym p.behind) ∙ sym e)
