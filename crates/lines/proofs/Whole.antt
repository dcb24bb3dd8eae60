-- A listing's bound never ends it: with one call more, the text is the same.
-- Assumes nothing.
use mathlib.Core.Path.{◌≡◌, refl, ap}
use Prim.Native.Nat.{ℕ, suc, zero, ◌+◌, ◌*◌, ◌≤◌, ◌<◌}
use native.Mathlib.Omega.{arith}
use mathlib.Core.List.{List, ◌++◌}
use lib.ListN.{length, drop, length-drop}
use lib.Seq.{length-take-le}
use Rattle.rfc.specs.Numbers.{Answer, given, refused, needs, least_message}
use Rattle.rfc.specs.Header as header
use Rattle.rfc.specs.Header.{bytes_of, options}
use Rattle.rfc.specs.Walk as walk
use Rattle.rfc.proofs.Header.{area_inside}
use Rattle.rfc.proofs.Endings.{MovesCall, moves_step}
use Rattle.lines.specs.Listing.{most_listed, option_line, onward, lines_in}

-- what is behind an option begins two bytes further on
alike : (place size k : ℕ) (a : Answer walk.Found) (more others : ℕ → List ℕ) → MovesCall place size a → size < place + 2 * suc k
    → ((p : ℕ) → p ≤ size → size < p + 2 * k → more p ≡ others p) → onward a more ≡ onward a others
unfolding onward
alike place size k (given (walk.stop s p)) more others m h same = refl
alike place size k (given (walk.option code v n p)) more others m h same =
    ap (λ (l : List ℕ). option_line code v n ++ l) (same p m.1 (omega arith))
alike place size k (refused number) more others m h same = refl
alike place size k (needs len) more others m h same = refl

enough : (room : ℕ) (area : List ℕ) (k place : ℕ) → place ≤ length area → length area < place + 2 * k
    → lines_in k room area place ≡ lines_in (suc k) room area place
unfolding lines_in
enough room area zero place h g = absurd (let f : ⊥ = omega arith in f)
enough room area (suc k) place h g =
    alike place (length area) k (walk.step area place room) (lines_in k room area) (lines_in (suc k) room area)
    (moves_step area place room) g (λ p i j. enough room area k p i j)

pub whole : (message : List ℕ) (p : header.Part) → header.area message ≡ given (options p) → least_message ≤ length message
    → lines_in (length message) most_listed (bytes_of p message) 0 ≡ lines_in (suc (length message)) most_listed (bytes_of p message) 0
whole message p e h =
    let inside = area_inside message p e in
    let size = length-take-le p.len (drop p.start message) (omega (arith, inside, length-drop p.start message)) in
    enough most_listed (bytes_of p message) (length message) 0 (omega arith) (omega (arith, size))
