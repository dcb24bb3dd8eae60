-- How long a listing is at the most: an option's line has 33 characters or fewer for each two bytes of the area that it takes.
-- Assumes nothing.
use mathlib.Core.Path.{◌≡◌, refl, subst}
use Prim.Native.Nat.{ℕ, suc, zero, ◌+◌, ◌-◌, ◌*◌, ◌^◌, ◌≤◌, ◌<◌}
use native.Mathlib.Omega.{arith}
use native.Mathlib.Decide.{dec_le, dec_lt}
use mathlib.Core.Bool.{Bool, true, false}
use mathlib.Core.List.{List, ◌++◌}
use lib.ListN.{length, drop, length-append, length-take, length-drop}
use lib.Seq.{length-take-le}
use borrow.Author.Tests.{lt-ltb, le-ltb}
use Rattle.facts.specs.BigEndian.{number}
use Rattle.facts.proofs.BigEndian.{number_below}
use Rattle.rfc.specs.Numbers.{Answer, given, refused, needs, most_bytes, least_message}
use Rattle.rfc.specs.Header as header
use Rattle.rfc.specs.Header.{bytes_of}
use Rattle.rfc.specs.Walk as walk
use Rattle.rfc.specs.Kinds.{kind_of}
use Rattle.rfc.specs.Lists.{Bytes}
use Rattle.rfc.proofs.Numbers.{Clear, short, not_short}
use Rattle.rfc.proofs.Codes.{kind_below}
use Rattle.rfc.proofs.Header.{message_read, hlen_read, chaddr-cut, chaddr_given, area_wrong, area_given}
use Rattle.rfc.proofs.Walk.{step_walked}
use Rattle.rfc.proofs.Bytes.{byte_below, bytes_part}
use Rattle.rfc.proofs.Places.{option_takes, walk_stands, values_bytes, code_byte}
use Rattle.pen.specs.Texts.{space, named}
use Rattle.pen.proofs.Lengths.{Most, word_most, both_most, decimal_below, decimal_most, decimal_small, spaced_most}
use Rattle.lines.specs.Words as words
use Rattle.lines.specs.Words.{newline}
use Rattle.lines.specs.Listing.{most_listed, message_line, refused_line, spill_text, address_text, chaddr_line, option_line, stop_word, stop_line, onward, lines_in, area_lines, listing}

-- The lines
pub number_most : (word : List ℕ) (n : ℕ) → Most (named word n) (length word + 20)
number_most word n = both_most (word_most word) (decimal_most n)

pub ended : {text : List ℕ} {n : ℕ} → Most text n → Most (text ++ newline) (n + 1)
ended m = both_most m (word_most newline)

message_most : (message : List ℕ) → Most (message_line message) 131
unfolding message_line
message_most message =
    let numbered : (word : List ℕ) (f : header.Part) → Most (named word (number (bytes_of f message))) (length word + 20) =
    λ word f. number_most word (number (bytes_of f message)) in
    let two = both_most (number_most words.message (length message)) (numbered words.op header.op) in
    let four = both_most (both_most two (numbered words.htype header.htype)) (numbered words.hlen header.hlen) in
    ended (both_most four (numbered words.xid header.xid))

spill_most : (spills : Bool) → Most (spill_text spills) 7
unfolding spill_text
spill_most true = ended (word_most words.spill)
spill_most false = record { most = omega arith }

pub refused_most : (number : ℕ) → Most (refused_line number) 29
unfolding refused_line
refused_most number = ended (number_most words.refused number)

name_most : (s : walk.Stop) → length (stop_word s) ≤ 22
name_most walk.out = omega arith
name_most walk.end = omega arith
name_most walk.cut_length = omega arith
name_most walk.cut_value = omega arith
name_most walk.cut_continuation = omega arith

stop_most : (s : walk.Stop) (at : ℕ) → length (stop_line s at) ≤ 43
unfolding stop_line
stop_most s at = omega (arith, (ended (number_most (stop_word s) at)).most, name_most s)

option_most : (code : ℕ) (v : List ℕ) (n : ℕ) → code < 256 → Bytes v → 1 ≤ n → 2 * length (option_line code v n) ≤ 33 * (2 * n + length v)
unfolding option_line
option_most code v n h b some =
    let code-text = both_most (word_most words.option) (decimal_below 2 code (omega arith)) in
    let kind-text = both_most (word_most words.kind) (decimal_below 1 (kind_of code) (omega (arith, kind_below code))) in
    let parts-text = both_most (word_most words.parts) (decimal_small n some) in
    let front = both_most (both_most (both_most code-text kind-text) parts-text) (word_most words.value) in
    omega (arith, (ended (both_most front (spaced_most v b))).most)

-- What a call finds
abbrev Right : ℕ → ℕ → Answer walk.Found → Type 0
Right place size (given (walk.stop s p)) = Unit {0}
Right place size (given (walk.option code v n p)) =
    (place + (2 * n + length v) ≤ p) × (p ≤ size) × (1 ≤ n) × (code < 256) × Bytes v
Right place size (refused k) = Unit {0}
Right place size (needs n) = Unit {0}

right : (area : List ℕ) (place room : ℕ) → Bytes area → Right place (length area) (walk.step area place room)
right area place room bytes = go (walk.step area place room) refl
  where
    go : (a : Answer walk.Found) → walk.step area place room ≡ a → Right place (length area) a
    go (given (walk.stop s p)) e = tt
    go (given (walk.option code v n p)) e =
        let w = step_walked area place room (walk.option code v n p) e in
        let s = walk_stands area code v n p place w in
        let from = p - (2 * n + length v) in (
          option_takes area place p code v n w,
          s.within,
          s.some,
          code_byte area bytes n from code v s.some s.parts,
          values_bytes area bytes n from code v s.parts,
        )
    go (refused k) e = tt
    go (needs n) e = tt

-- the lines of an area from a place on
onward_most : (place size : ℕ) (a : Answer walk.Found) (more : ℕ → List ℕ) → Right place size a → place ≤ size
    → ((p : ℕ) → p ≤ size → 2 * length (more p) + 33 * p ≤ 33 * size + 86) → 2 * length (onward a more) + 33 * place ≤ 33 * size + 86
unfolding onward
onward_most place size (given (walk.stop s p)) more r h rest = omega (arith, stop_most s p)
onward_most place size (given (walk.option code v n p)) more (takes, within, some, byte, bytes) h rest =
    omega (arith, option_most code v n byte bytes some, rest p within, length-append (option_line code v n) (more p))
onward_most place size (refused k) more r h rest = omega (arith, (refused_most k).most)
onward_most place size (needs n) more r h rest = omega (arith, (refused_most 5).most)

lines_most : (area : List ℕ) (room k place : ℕ) → Bytes area → place ≤ length area
    → 2 * length (lines_in k room area place) + 33 * place ≤ 33 * length area + 86
unfolding lines_in
lines_most area room zero place bytes h = omega arith
lines_most area room (suc k) place bytes h =
    onward_most place (length area) (walk.step area place room) (lines_in k room area) (right area place room bytes) h
    (λ p g. lines_most area room k p bytes g)

-- The address
module _ (message : List ℕ) (bytes : Bytes message) where
  shown_most : (x : header.Address) → x.shown.len ≤ 255 → length (address_text message (given x)) ≤ 1027
  unfolding address_text
  shown_most x h =
      let p = x.shown in
      let text = both_most (spaced_most (bytes_of p message) (bytes_part p message bytes)) (spill_most x.spills) in
      omega (arith, length-take p.len (drop p.start message), text.most)

  cut_most : length (address_text message (refused 3)) ≤ 1027
  unfolding address_text
  cut_most = omega (arith, (both_most (word_most space) (refused_most 3)).most)

  -- hlen is a byte
  small : least_message ≤ length message → header.hlen_of message ≤ 255
  small h =
      let field = bytes_of header.hlen message in
      let one : length field ≡ 1 = length-take-le 1 (drop 2 message) (omega (arith, length-drop 2 message)) in
      let below = number_below field (byte_below field (bytes_part header.hlen message bytes)) in
      let byte = subst (λ (k : ℕ). number field < 256 ^ k) one below in
      omega (arith, hlen_read message)

  address_most : Clear (header.message_checks message) → least_message ≤ length message
      → length (address_text message (header.chaddr message)) ≤ 1027
  address_most c h = go (dec_le (28 + n) (length message))
    where
      n : ℕ
      n = header.hlen_of message

      go : Dec (28 + n ≤ length message) → length (address_text message (header.chaddr message)) ≤ 1027
      go (yes g) = rw (chaddr_given message c n refl g) (shown_most (header.address n) (small h))
      go (no g) = rw (chaddr-cut message c n refl (omega arith)) cut_most

  -- The area is all but the first 240 bytes
  area_most : Clear (header.message_checks message) → least_message ≤ length message → length message ≤ most_listed
      → length (area_lines message (header.area message)) ≤ 63667
  unfolding area_lines
  area_most c h g = go (header.magic_right message) refl
    where
      area : header.Part
      area = header.part 240 (length message - 240)

      size : length (bytes_of area message) ≤ 3856
      size = omega (arith, length-take (length message - 240) (drop 240 message))

      go : (t : Bool) → header.magic_right message ≡ t → length (area_lines message (header.area message)) ≤ 63667
      go true e =
          rw (area_given message c e)
          (omega (arith, size, lines_most (bytes_of area message) most_listed (length message) 0 (bytes_part area message bytes) (omega arith)))
      go false e = rw (area_wrong message c e) (omega arith)

-- The whole text
pub listing_most : (message : List ℕ) → Bytes message → length (listing message) ≤ most_bytes
unfolding listing chaddr_line
listing_most message bytes = go (dec_lt most_listed (length message)) (dec_lt (length message) least_message)
  where
    go : Dec (most_listed < length message) → Dec (length message < least_message) → length (listing message) ≤ most_bytes
    go (yes h) _ = rw (lt-ltb most_listed (length message) h) (omega arith)
    go (no h) (yes g) =
        rw (le-ltb most_listed (length message) (omega arith), short message g) (omega (arith, (refused_most 1).most))
    go (no h) (no g) =
        let most : length message ≤ most_listed = omega arith in
        let least : least_message ≤ length message = omega arith in
        let c = message_read message (omega arith) least in
        let address = length-append words.chaddr (address_text message (header.chaddr message)) in
        let front = length-append (message_line message) (chaddr_line message) in
        rw (le-ltb most_listed (length message) most, not_short message least)
        (omega (
          arith,
          (message_most message).most,
          address_most message bytes c least,
          area_most message bytes c least most,
          length-append (message_line message ++ chaddr_line message) (area_lines message (header.area message)),
        ))
