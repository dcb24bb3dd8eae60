-- `bytes_at` meets its contract: the bytes are those from the place on.
-- Assumes nothing.
use Rattle.std.proofs.Common.{◌≡◌, ℕ, ◌+◌, ◌<◌, ◌≤◌, List, length, take, drop, arith, ◌∙◌, ap, sym, Option, Some, None, MatchOption, Bor, length-drop}
use Rattle.std.proofs.lemmas.List.{length-take-le, take_all}
use Rattle.std.specs.Array.{IsFirstChunk}
use Rattle.facts.specs.BigEndian.{number, number_at}
use Rattle.facts.proofs.BigEndian.{number_there}
use Rattle.decoder.proofs.bytes_at.Goals as goal

-- n bytes have n at their front
whole : (n at : ℕ) (bytes part : List ℕ) (r : Option (Bor (List ℕ))) → at + n ≤ length bytes → part ≡ take n (drop at bytes)
    → MatchOption r (length part < n) (λ y. IsFirstChunk part y.now n)
    → MatchOption r (number_at n bytes at ≡ 0) (λ b. number_at n bytes at ≡ number b.now)
whole n at bytes part None h e m =
    absurd (omega (arith, ap length e, length-take-le n (drop at bytes) (omega (arith, length-drop at bytes))))
whole n at bytes part (Some y) h e m =
    let all : length part ≤ n = omega (arith, ap length e, length-take-le n (drop at bytes) (omega (arith, length-drop at bytes))) in
    number_there n bytes at h ∙ ap number (sym (m.same ∙ take_all n part all ∙ e))

pub returns : goal.returns
returns g c =
    let a = c.args in
    whole _ a.at a.bytes.now _ _ (omega arith) (ap (λ (n : ℕ). take n (drop a.at a.bytes.now)) (omega arith)) c.first_chunk.ensures.cases
