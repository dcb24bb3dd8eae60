-- A typed write that is given: what it has passed, where it ends and what it leaves, and of which values it writes nothing.
-- Assumes nothing.
use mathlib.Core.Path.{◌≡◌, ap}
use Prim.Native.Nat.{ℕ, ◌+◌, ◌≤◌, ◌<◌}
use mathlib.Core.Bool.{false}
use mathlib.Core.List.{List, [], ◌∷◌}
use native.Mathlib.Omega.{arith}
use borrow.Author.Tests.{eqb-true, not-false}
use lib.ListN.{length}
use Rattle.facts.specs.Over.{over}
use Rattle.rfc.specs.Numbers.{given, most_bytes, most_value, no_code}
use Rattle.rfc.specs.Kinds.{kind_of}
use Rattle.rfc.specs.Values.{Value, not_text}
use Rattle.rfc.specs.Writing.{encode, write_checks, answer_to, room_after}
use Rattle.rfc.specs.Typed.{bytes_of, part_size, encode_kind, other_kind, odd_pairs, code_checks, value_checks, write_kind, write_value, Proper, Empty}
use Rattle.rfc.proofs.Numbers.{Clear, next, passes, given_no, not_too_long, not_too_much}
use Rattle.rfc.proofs.Codes.{kind_below}
use Rattle.rfc.proofs.Writing.{encode_none, no_value, given_left, given_to, given_fits}
use Rattle.rfc.proofs.Typed.{some_part, encode-kind, encode_flag}
use Rattle.rfc.proofs.Contents.{empty_kind, empty_bytes, bytes_empty}

-- the bytes of a typed write
abbrev pub put : ℕ → Value → List ℕ
put code x = encode_kind x.kind code (bytes_of x)

-- what holds of a write that is given: of the room, the code and the value
pub record Written (code : ℕ) (x : Value) (room : List ℕ) (place to : ℕ) : Type 0 where
  pub short : length room ≤ most_bytes
  pub some : no_code code ≡ false
  pub is : kind_of code ≡ x.kind
  pub even : odd_pairs x.kind (bytes_of x) ≡ false
  pub utf : not_text x.kind (bytes_of x) ≡ false
  pub most : length (bytes_of x) ≤ most_value
  -- and of the bytes that it puts there
  pub inside : place + length (put code x) ≤ length room
  pub ends : to ≡ place + length (put code x)
  pub left : room_after (write_value code x room place) room place ≡ over room place (put code x)

same_kind : (kind code : ℕ) → other_kind kind code ≡ false → kind_of code ≡ kind
unfolding other_kind
same_kind kind code e = eqb-true (kind_of code) kind (not-false _ e)

pub written : (code : ℕ) (x : Value) (room : List ℕ) (place to : ℕ) → answer_to (write_value code x room place) room place ≡ given to
    → Written code x room place to
unfolding answer_to write_checks write_value write_kind code_checks value_checks
written code x room place to e = go (passes _ _ (given to) (given_no to) e).0
  where
    go : Clear (write_checks (write_value code x room place) room place) → Written code x room place to
    go (next long (next past (next none (next other (next odd (next no_text (next much last))))))) =
        record {
          short = not_too_long room long;
          some = none;
          is = same_kind x.kind code other;
          even = odd;
          utf = no_text;
          most = not_too_much (bytes_of x) much;
          inside = given_fits (write_value code x room place) room place to e;
          ends = given_to (write_value code x room place) room place to e;
          left = given_left (write_value code x room place) room place to e;
        }

module _ {code : ℕ} {x : Value} {room : List ℕ} {place to : ℕ} (w : Written code x room place to) where
  pub below_16 : x.kind < 16
  below_16 = omega (arith, w.is, kind_below code)

  -- nothing is written exactly of an empty value
  pub nothing_put : Proper x.kind x.content → to ≡ place → Empty x.content
  nothing_put proper e =
      let flag-put : x.kind ≡ 15 → put code x ≡ code ∷ 0 ∷ [] = λ is. rw is (encode_flag code _) in
      let other : x.kind ≡ 15 → ⊥ = λ is. omega (arith, w.ends, ap length (flag-put is)) in
      let low : x.kind < 15 = omega (arith, below_16, other) in
      let none : length (encode (part_size x.kind) code (bytes_of x)) ≡ 0 =
      omega (arith, w.ends, ap length (encode-kind x.kind code (bytes_of x) other)) in
      bytes_empty x.kind x.content proper low (no_value (part_size x.kind) (some_part x.kind low) code (bytes_of x) none)

  pub put_nothing : Proper x.kind x.content → Empty x.content → to ≡ place
  put_nothing proper e =
      let low : x.kind < 15 = empty_kind proper e in
      let none : put code x ≡ [] =
      rw (encode-kind x.kind code (bytes_of x) (λ is. omega arith), empty_bytes x.kind x.content e)
      (encode_none _ (some_part x.kind low) code) in
      omega (arith, w.ends, ap length none)
