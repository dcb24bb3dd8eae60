-- The laws of `specs/Listing.antt`: what each line says, by what the library answered.
-- Assumes nothing.
use mathlib.Core.Path.{◌≡◌, refl, sym, ap, ◌∙◌}
use Prim.Native.Nat.{ℕ, suc, ◌+◌, ◌-◌, ◌≤◌, ◌<◌}
use native.Mathlib.Omega.{arith}
use mathlib.Core.List.{List, [], ◌++◌}
use lib.ListN.{length}
use borrow.Author.Tests.{lt-ltb, le-ltb}
use Rattle.std.specs.Prelude.{Result, Ok, is_ok, IsOk}
use Rattle.facts.specs.BigEndian.{number}
use Rattle.rfc.specs.Numbers.{Answer, given, least_message}
use Rattle.rfc.specs.Header as header
use Rattle.rfc.specs.Header.{bytes_of, field}
use Rattle.rfc.specs.Walk as walk
use Rattle.rfc.proofs.Numbers.{short, not_short}
use Rattle.rfc.proofs.Header as laws
use Rattle.refusal.specs.declared.Refusal.{Refusal}
use Rattle.refusal.specs.Told.{told, says, number_of}
use Rattle.refusal.proofs.Told.{told_one, says_as}
use Rattle.pen.specs.Texts.{space}
use Rattle.lines.specs.Words as words
use Rattle.lines.specs.Words.{newline}
use Rattle.lines.specs.Listing.{most_listed, message_line, refused_line, address_text, chaddr_line, option_line, stop_line, onward, lines_in, area_lines, listing}
use Rattle.lines.specs.Listed.{Listed}

-- a field of the header, of a message that is listed: it is given, and is the number of its bytes
field_listed : (message : List ℕ) (f : header.Part) → Listed message → (r : Result ℕ Refusal) → told r ≡ field f message
    → r ≡ Ok (number (bytes_of f message))
field_listed message f l r e = told_one r _ (e ∙ laws.field_given message f (laws.message_read message (omega (arith, l.most)) l.least))

module _ (message : List ℕ) (f : header.Part) (l : Listed message) (r : Result ℕ Refusal) (e : told r ≡ field f message) where
  pub field_given : IsOk r
  field_given = ap is_ok (field_listed message f l r e)

  pub field_is : (n : ℕ) → r ≡ Ok n → number (bytes_of f message) ≡ n
  field_is n is = let both : Ok (number (bytes_of f message)) ≡ Ok n = sym (field_listed message f l r e) ∙ is in cc

-- what a refusal says is its number's line
pub address_refused : (message : List ℕ) (e : Refusal) → address_text message (says e) ≡ space ++ refused_line (number_of e)
unfolding address_text
address_refused message =
    says_as (λ (a b : Answer header.Address) k len. address_text message a ≡ space ++ refused_line k) (λ k. refl) (λ len. refl)

pub area_refused : (message : List ℕ) (e : Refusal) → area_lines message (says e) ≡ refused_line (number_of e)
unfolding area_lines
area_refused message = says_as (λ (a b : Answer header.Area) k len. area_lines message a ≡ refused_line k) (λ k. refl) (λ len. refl)

onward_refused : (more : ℕ → List ℕ) (e : Refusal) → onward (says e) more ≡ refused_line (number_of e)
unfolding onward
onward_refused more = says_as (λ (a b : Answer walk.Found) k len. onward a more ≡ refused_line k) (λ k. refl) (λ len. refl)

-- call after call: one that finds an option has more lines behind it; any other answer is the last line
module _ (area : List ℕ) (room place calls i : ℕ) (some : i < calls) where
  lines_next : (a : Answer walk.Found) → a ≡ walk.step area place room
      → onward a (lines_in (calls - (i + 1)) room area) ≡ lines_in (calls - i) room area place
  unfolding lines_in
  lines_next a told =
      let more : calls - i ≡ suc (calls - (i + 1)) = omega arith in
      rw (more, told)

  pub lines_stopped : (s : walk.Stop) (at : ℕ) → given (walk.stop s at) ≡ walk.step area place room
      → stop_line s at ≡ lines_in (calls - i) room area place
  unfolding onward
  lines_stopped s at told = lines_next (given (walk.stop s at)) told

  pub lines_refused : (e : Refusal) → says e ≡ walk.step area place room → refused_line (number_of e) ≡ lines_in (calls - i) room area place
  lines_refused e told = sym (onward_refused _ e) ∙ lines_next (says e) told

  pub lines_more : (code parts at : ℕ) (v : List ℕ) → given (walk.option code v parts at) ≡ walk.step area place room
      → option_line code v parts ++ lines_in (calls - (i + 1)) room area at ≡ lines_in (calls - i) room area place
  unfolding onward
  lines_more code parts at v told = lines_next (given (walk.option code v parts at)) told

pub lines_none : (room : ℕ) (area : List ℕ) (place calls i : ℕ) → calls ≤ i → [] ≡ lines_in (calls - i) room area place
unfolding lines_in
lines_none room area place calls i h =
    let none : calls - i ≡ 0 = omega arith in
    rw none

-- the whole text
module _ (message : List ℕ) where
  pub listing_long : most_listed < length message → words.too_long ++ newline ≡ listing message
  unfolding listing
  listing_long h = rw (lt-ltb most_listed (length message) h)

  module _ (h : length message ≤ most_listed) where
    pub listing_short : length message < least_message → refused_line 1 ≡ listing message
    unfolding listing
    listing_short g = rw (le-ltb most_listed (length message) h, short message g)

    pub listing_whole : least_message ≤ length message
        → message_line message ++ chaddr_line message ++ area_lines message (header.area message) ≡ listing message
    unfolding listing
    listing_whole g = rw (le-ltb most_listed (length message) h, not_short message g)
