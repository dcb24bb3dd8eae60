-- The laws of `specs/Joined.antt`: what each line says, by what the library answered.
-- Assumes nothing.
use mathlib.Core.Path.{◌≡◌, refl, sym, ◌∙◌}
use Prim.Native.Nat.{ℕ, suc, ◌+◌, ◌-◌, ◌≤◌, ◌<◌}
use native.Mathlib.Omega.{arith}
use mathlib.Core.List.{List, [], ◌++◌}
use lib.ListN.{length}
use borrow.Author.Tests.{lt-ltb, le-ltb}
use Rattle.rfc.specs.Numbers.{Answer, given}
use Rattle.rfc.specs.Header.{Area, area}
use Rattle.rfc.specs.Walk.{Found, Stop, stop, option}
use Rattle.rfc.specs.Aggregate.{entry}
use Rattle.refusal.specs.declared.Refusal.{Refusal}
use Rattle.refusal.specs.Told.{says, number_of}
use Rattle.refusal.proofs.Told.{says_as}
use Rattle.lines.specs.Words as words
use Rattle.lines.specs.Words.{newline}
use Rattle.lines.specs.Listing.{most_listed, refused_line, option_line}
use Rattle.joined_lines.specs.Joined.{codes_line, in_turn, entries_in, fields_lines, joined_lines, joined_listing}

-- what a refusal says is its number's line
pub fields_refused : (message : List ℕ) (e : Refusal) → fields_lines message (says e) ≡ refused_line (number_of e)
unfolding fields_lines
fields_refused message = says_as (λ (a b : Answer ℕ) k len. fields_lines message a ≡ refused_line k) (λ k. refl) (λ len. refl)

pub lines_refused : (message : List ℕ) (e : Refusal) → joined_lines message (says e) ≡ refused_line (number_of e)
unfolding joined_lines
lines_refused message = says_as (λ (a b : Answer Area) k len. joined_lines message a ≡ refused_line k) (λ k. refl) (λ len. refl)

turn_refused : (index : ℕ) (more : List ℕ) (e : Refusal) → in_turn (says e) index more ≡ refused_line (number_of e)
unfolding in_turn
turn_refused index more = says_as (λ (a b : Answer Found) k len. in_turn a index more ≡ refused_line k) (λ k. refl) (λ len. refl)

-- index after index: an option has more lines behind it; any other answer is the last line
module _ (message : List ℕ) (room calls index : ℕ) (some : index < calls) where
  entries_next : (a : Answer Found) → a ≡ entry message index room
      → in_turn a index (entries_in (calls - (index + 1)) room message (index + 1)) ≡ entries_in (calls - index) room message index
  unfolding entries_in
  entries_next a told =
      let more : calls - index ≡ suc (calls - (index + 1)) = omega arith in
      rw (more, told)

  pub entries_stopped : (s : Stop) (at : ℕ) → given (stop s at) ≡ entry message index room
      → codes_line index ≡ entries_in (calls - index) room message index
  unfolding in_turn
  entries_stopped s at told = entries_next (given (stop s at)) told

  pub entries_refused : (e : Refusal) → says e ≡ entry message index room
      → refused_line (number_of e) ≡ entries_in (calls - index) room message index
  entries_refused e told = sym (turn_refused index _ e) ∙ entries_next (says e) told

  pub entries_more : (code parts at : ℕ) (v : List ℕ) → given (option code v parts at) ≡ entry message index room
      → option_line code v parts ++ entries_in (calls - (index + 1)) room message (index + 1) ≡ entries_in (calls - index) room message index
  unfolding in_turn
  entries_more code parts at v told = entries_next (given (option code v parts at)) told

pub entries_none : (room : ℕ) (message : List ℕ) (index calls : ℕ) → calls ≤ index → [] ≡ entries_in (calls - index) room message index
unfolding entries_in
entries_none room message index calls h =
    let none : calls - index ≡ 0 = omega arith in
    rw none

-- the whole text
module _ (message : List ℕ) where
  pub joined_long : most_listed < length message → words.too_long ++ newline ≡ joined_listing message
  unfolding joined_listing
  joined_long h = rw (lt-ltb most_listed (length message) h)

  pub joined_whole : length message ≤ most_listed → joined_lines message (area message) ≡ joined_listing message
  unfolding joined_listing
  joined_whole h = rw (le-ltb most_listed (length message) h)
