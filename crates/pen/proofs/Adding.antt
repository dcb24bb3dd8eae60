-- The laws of `specs/Adding.antt`: texts that are added one behind the other, what they leave where they fit, and what they count.
-- Assumes nothing.
use mathlib.Core.Path.{◌≡◌, refl, sym, ap, ◌∙◌}
use Prim.Native.Nat.{ℕ, suc, ◌+◌, ◌≤◌, ◌<◌}
use native.Mathlib.Omega.{arith}
use mathlib.Core.List.{List, [], ◌∷◌, ◌++◌, foldl-append}
use mathlib.Core.Bool.{Bool, true, false}
use lib.Dec.{leb}
use lib.ListN.{length, set, length-set}
use borrow.Author.Tests.{leb-true, leb-false, lt-ltb, le-ltb, le-leb, lt-leb}
use Rattle.facts.specs.Over.{over}
use Rattle.facts.proofs.Over.{over_nil, over_over, set_over}
use Rattle.rfc.specs.Numbers.{most_bytes}
use Rattle.pen.specs.Adding.{State, behind, adds, adds_all}

-- the place behind a place
pub behind_next : (at : ℕ) → at ≤ most_bytes → behind at ≡ at + 1
unfolding behind
behind_next at h = rw (le-leb at most_bytes h)

pub behind-last : (at : ℕ) → most_bytes < at → behind at ≡ at
unfolding behind
behind-last at h = rw (lt-leb at most_bytes h)

behind_is : (at : ℕ) → (behind at ≤ at + 1) × (behind at ≤ most_bytes → behind at ≡ at + 1)
behind_is at = go (leb at most_bytes) refl
  where
    go : (t : Bool) → leb at most_bytes ≡ t → (behind at ≤ at + 1) × (behind at ≤ most_bytes → behind at ≡ at + 1)
    go true e = let n = behind_next at (leb-true at most_bytes e) in (omega arith, λ h. n)
    go false e =
        let past = leb-false at most_bytes e in
        let l = behind-last at past in
        (omega arith, λ h. omega arith)

-- a character inside the room, and outside
pub adds_inside : (d : List ℕ) (at next character : ℕ) → at < length d → next ≡ behind at
    → (set d at character, next) ≡ adds (d, at) character
unfolding adds
adds_inside d at next character h e = rw (lt-ltb at (length d) h, e)

pub adds_outside : (d : List ℕ) (at next character : ℕ) → length d ≤ at → next ≡ behind at → (d, next) ≡ adds (d, at) character
unfolding adds
adds_outside d at next character h e = rw (le-ltb at (length d) h, e)

-- no text, and a text of one character
pub nothing : (s : State) → s ≡ adds_all s []
unfolding adds_all
nothing s = refl

pub one : (s : State) (character : ℕ) → adds s character ≡ adds_all s (character ∷ [])
unfolding adds_all
one s character = refl

-- a text behind a text
pub both : {t u : State} (s : State) (a b : List ℕ) → t ≡ adds_all s a → u ≡ adds_all t b → u ≡ adds_all s (a ++ b)
unfolding adds_all
both s a b e g = g ∙ ap (λ (x : State). adds_all x b) e ∙ sym (foldl-append adds s a b)

-- where a text fits in a room, it is written there
pub fits : (d : List ℕ) (at : ℕ) (text : List ℕ) → length d ≤ most_bytes → at + length text ≤ length d
    → adds_all (d, at) text ≡ (over d at text, at + length text)
unfolding adds_all
fits d at [] h g =
    let z : at ≡ at + 0 = omega arith in
    rw (over_nil d at, ← z)
fits d at (b ∷ text) h g =
    let k : at + 1 + length text ≡ at + suc (length text) = omega arith in
    rw (
      ← adds_inside d at (at + 1) b (omega arith) (sym (behind_next at (omega arith))),
      fits (set d at b) (at + 1) text (omega (arith, length-set d at b)) (omega (arith, length-set d at b)),
      set_over d at b (omega arith),
      over_over d at (b ∷ []) text (omega arith),
      k,
    )

-- where it stops counting: a text counts as many characters as it has, up to more than the most bytes of a room
module _ (n : ℕ) where
  pub counts_most : (s : State) (text : List ℕ) → (adds_all s text).1 ≡ n → n ≤ s.1 + length text
  unfolding adds_all adds
  counts_most s [] e = omega arith
  counts_most s (b ∷ text) e = omega (arith, counts_most (adds s b) text e, (behind_is s.1).0)

  pub counts : (s : State) (text : List ℕ) → (adds_all s text).1 ≡ n → n ≤ most_bytes → n ≡ s.1 + length text
  unfolding adds_all adds
  counts s [] e h = omega arith
  counts s (b ∷ text) e h =
      let rest : n ≡ behind s.1 + length text = counts (adds s b) text e h in
      omega (arith, rest, (behind_is s.1).1 (omega (arith, rest)))
