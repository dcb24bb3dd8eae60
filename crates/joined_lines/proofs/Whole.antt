-- A listing's bound never ends it: with one call more, the text is the same.
-- Assumes nothing.
use mathlib.Core.Path.{◌≡◌, refl, ap}
use Prim.Native.Nat.{ℕ, suc, zero, ◌+◌, ◌≤◌, ◌<◌}
use native.Mathlib.Omega.{arith}
use mathlib.Core.List.{List, ◌++◌}
use lib.ListN.{length}
use Rattle.rfc.specs.Numbers.{Answer, given, refused, needs, least_message}
use Rattle.rfc.specs.Walk.{Found, stop, option}
use Rattle.rfc.specs.Aggregate.{fields_of, aggregate, codes_of, entry}
use Rattle.rfc.proofs.OfCode.{parts_fit}
use Rattle.rfc.proofs.Indexed.{codes_fewer, indexed}
use Rattle.lines.specs.Listing.{most_listed, option_line}
use Rattle.joined_lines.specs.Joined.{in_turn, entries_in}

module _ (message : List ℕ) (room : ℕ) where
  -- how many codes there are
  abbrev codes : ℕ
  codes = length (codes_of (aggregate (fields_of message)))

  enough : (k index : ℕ) → index ≤ codes → codes < index + k → entries_in k room message index ≡ entries_in (suc k) room message index
  unfolding entries_in in_turn
  enough zero index h g = absurd (let f : ⊥ = omega arith in f)
  enough (suc k) index h g = go (entry message index room) refl (enough k (index + 1))
    where
      go : (a : Answer Found) → entry message index room ≡ a
          → (index + 1 ≤ codes → codes < index + 1 + k → entries_in k room message (index + 1) ≡ entries_in (suc k) room message (index + 1))
          → in_turn a index (entries_in k room message (index + 1)) ≡ in_turn a index (entries_in (suc k) room message (index + 1))
      go (given (stop s at)) e more = refl
      go (given (option code v n at)) e more =
          ap (λ (l : List ℕ). option_line code v n ++ l) (more (omega (arith, (indexed message index room code v n at e).inside)) (omega arith))
      go (refused number) e more = refl
      go (needs len) e more = refl

pub whole : (message : List ℕ) → least_message ≤ length message
    → entries_in (length message) most_listed message 0 ≡ entries_in (suc (length message)) most_listed message 0
whole message h =
    enough message most_listed (length message) 0 (omega arith)
    (omega (arith, codes_fewer (aggregate (fields_of message)), parts_fit message h))
