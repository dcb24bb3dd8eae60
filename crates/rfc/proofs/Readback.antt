-- What a typed writer writes and the walk finds reads as the same value, for every kind, in both modes.
-- Assumes nothing.
use mathlib.Core.Path.{◌≡◌, refl, sym, ap, ◌∙◌, subst}
use Prim.Native.Nat.{ℕ, ◌+◌, ◌%◌, ◌^◌, ◌≤◌, ◌<◌}
use mathlib.Core.Bool.{true, false, not}
use mathlib.Core.List.{List, [], ◌∷◌, ◌++◌, flatten}
use native.Mathlib.Omega.{arith}
use native.Mathlib.Nat.{mod-one}
use native.Mathlib.Decide.{dec_le}
use borrow.Author.Tests.{eqb-true, eq-eqb, not-false}
use lib.IntN.{ℤ}
use lib.ListN.{length, take, drop, length-append}
use lib.Seq.{take_all, append_snoc}
use Rattle.facts.specs.BigEndian.{number, digits, signed, unsigned}
use Rattle.facts.specs.Over.{over}
use Rattle.facts.specs.Pieces.{pieces}
use Rattle.facts.specs.Ranges.{lookup, within}
use Rattle.facts.proofs.BigEndian.{length_digits, number_digits}
use Rattle.facts.proofs.Over.{length_over, from_over, over_over}
use Rattle.rfc.specs.Numbers.{given, most_bytes, most_value, end_code, no_code}
use Rattle.rfc.specs.Kinds.{kinds, kind_of, size_of, sizes}
use Rattle.rfc.specs.Values.{Content, raw, natural, integer, truth, numbers, nothing, Value, width_of, value_of, Rule, exactly, multiple, one_or_more, breaks, Mode, plain, strict, rules, rule_for, wrong_length, not_text, unclear, read, valued, read_option}
use Rattle.rfc.specs.Walk.{run, further, walk, option, step}
use Rattle.rfc.specs.Writing.{parts_of, encode, answer_to, room_after, into_room, close}
use Rattle.rfc.specs.Typed.{digits_of, bytes_in, bytes_of, part_size, encode_kind, odd_pairs, write_value, Apart, Below, Seconds, Proper, bytes, address, addresses, pairs, byte, yes_no, u16, u16s, u32, i32, text, codes, node_type, message_type, three_bytes, flag}
use Rattle.rfc.proofs.Numbers.{no_pad, no_end}
use Rattle.rfc.proofs.Writing.{some_value, given_left, given_fits}
use Rattle.rfc.proofs.Parts.{walk_parts, walk_value, apart_none}
use Rattle.rfc.proofs.Values as of
use Rattle.rfc.proofs.Elements.{listed_size}
use Rattle.rfc.proofs.Readings.{length_by, some_alike, flag_empty, strict_judged, read_given, strict_plain, value_given}
use Rattle.rfc.proofs.Typed.{some_part, encode-kind, encode_flag}
use Rattle.rfc.proofs.Contents.{digits_whole, numbers_back, seconds_below, seconds_signed}
use Rattle.rfc.proofs.Written.{put, Written, below_16}
use Rattle.rfc.proofs.Walk.{further_other, answered, step_walks}

-- some bytes are those of a value: strict reading takes them, and reads it
record Reads (kind : ℕ) (v : List ℕ) (content : Content) : Type 0 where
  right : wrong_length strict kind v ≡ false
  clear : unclear strict kind v ≡ false
  same : value_of kind v ≡ of.value kind content

-- by the rule for their length
taken : (kind : ℕ) (v : List ℕ) (content : Content) (rule : Rule) → rule_for strict kind ≡ rule
    → breaks rule (size_of kind) (length v) ≡ false → unclear strict kind v ≡ false → value_of kind v ≡ of.value kind content
    → Reads kind v content
taken kind v content rule is right clear same =
    record { right = sym (length_by strict kind v rule is) ∙ right; clear = clear; same = same }

-- a kind that holds one number, as it is or made into something else
one : (kind : ℕ) (make : ℕ → Content) → rule_for strict kind ≡ exactly → ((v : List ℕ) → unclear strict kind v ≡ false)
    → ((v : List ℕ) → value_of kind v ≡ of.value kind (make (number (take (size_of kind) v))))
    → (n : ℕ) → n < 256 ^ size_of kind → Reads kind (digits (size_of kind) n) (make n)
one kind make rule clear holds n h =
    let v : List ℕ = digits (size_of kind) n in
    let len : length v ≡ size_of kind = length_digits (size_of kind) n in
    taken kind v (make n) exactly rule (ap not (eq-eqb _ _ len)) (clear v)
    (holds v
    ∙ ap (λ (l : List ℕ). of.value kind (make (number l))) (take_all (size_of kind) v (omega arith))
    ∙ ap (λ (k : ℕ). of.value kind (make k)) (number_digits (size_of kind) n h))

-- some elements, all of them whole
one-or-more : (size : ℕ) (v : List ℕ) → 0 < length v → length v % size ≡ 0 → breaks one_or_more size (length v) ≡ false
one-or-more size v some rest = some_alike size (length v) (λ z. omega arith) ∙ ap not (eq-eqb _ 0 rest)

-- a kind that is a list
many : {kind width n : ℕ} → of.Listed kind width n → rule_for strict kind ≡ one_or_more → ((v : List ℕ) → unclear strict kind v ≡ false)
    → (l : List ℕ) → Below (256 ^ width) l → 0 < length (digits_of width l) → length (digits_of width l) % size_of kind ≡ 0
    → Reads kind (digits_of width l) (numbers l)
many {kind} {width} k rule clear l b some rest =
    let v : List ℕ = digits_of width l in
    taken kind v (numbers l) one_or_more rule (one-or-more _ v some rest) (clear v)
    (of.listed_value v k ∙ ap (λ (m : List ℕ). of.value kind (numbers m)) (numbers_back width (listed_size k).1 l b))

-- a value's bytes read as it; of pairs, where they are whole ones
reads : (kind : ℕ) (content : Content) → Proper kind content → (kind < 15 → 0 < length (bytes_in kind content))
    → odd_pairs kind (bytes_in kind content) ≡ false
    → Reads kind (bytes_in kind content) content
unfolding size_of sizes rule_for rules lookup within width_of unclear odd_pairs
reads kind content (bytes v) some even = taken 0 v (raw v) multiple refl (ap not (eq-eqb _ 0 (mod-one (length v)))) refl (of.raw_value v)
reads kind content (address n h) some even = one 1 natural refl (λ v. refl) (λ v. of.scalar_value v of.address) n h
reads kind content (addresses l b) some even = many of.addresses refl (λ v. refl) l b (some (omega arith)) (digits_whole 4 l)
reads kind content (pairs l b) some even = many of.pairs refl (λ v. refl) l b (some (omega arith)) (eqb-true _ 0 (not-false _ even))
reads kind content (byte n h) some even = one 4 natural refl (λ v. refl) (λ v. of.scalar_value v of.byte) n h
reads kind content (yes_no true) some even = taken 5 _ (truth true) exactly refl refl refl (of.scalar_value _ of.yes_no)
reads kind content (yes_no false) some even = taken 5 _ (truth false) exactly refl refl refl (of.scalar_value _ of.yes_no)
reads kind content (u16 n h) some even = one 6 natural refl (λ v. refl) (λ v. of.scalar_value v of.u16) n h
reads kind content (u16s l b) some even = many of.u16s refl (λ v. refl) l b (some (omega arith)) (digits_whole 2 l)
reads kind content (u32 n h) some even = one 8 natural refl (λ v. refl) (λ v. of.scalar_value v of.u32) n h
reads kind content (i32 z h) some even =
    let n : ℕ = unsigned z in
    subst (λ (y : ℤ). Reads 9 (digits 4 n) (integer y)) (seconds_signed z h)
    (one 9 (λ (k : ℕ). integer (signed k)) refl (λ v. refl) (λ v. of.scalar_value v of.i32) n (seconds_below z h))
reads kind content (text v) some even = taken 10 v (raw v) one_or_more refl (one-or-more _ v (some (omega arith)) (mod-one (length v))) refl (of.text_value v)
reads kind content (codes l b) some even = many of.codes refl (λ v. refl) l b (some (omega arith)) (digits_whole 1 l)
reads kind content (node_type n h) some even = one 12 natural refl (λ v. refl) (λ v. of.scalar_value v of.node_type) n h
reads kind content (message_type n h) some even = one 13 natural refl (λ v. refl) (λ v. of.scalar_value v of.message_type) n h
reads kind content (three_bytes a b c) some even = taken 14 _ (raw (a ∷ b ∷ c ∷ [])) exactly refl refl refl (of.scalar_value _ of.three_bytes)
reads kind content flag some even = taken 15 [] nothing exactly refl refl refl (of.flag_value [])

-- so they are read, to a code of the kind: what strict reading accepts, plain reading reads alike
value_back : (mode : Mode) (code : ℕ) (x : Value) → Proper x.kind x.content → no_code code ≡ false → kind_of code ≡ x.kind
    → length (bytes_of x) ≤ most_bytes → (x.kind < 15 → 0 < length (bytes_of x))
    → odd_pairs x.kind (bytes_of x) ≡ false → not_text x.kind (bytes_of x) ≡ false
    → read mode code (bytes_of x) ≡ given x
value_back mode code x p some is short held even utf = go mode
  where
    strictly : read strict code (bytes_of x) ≡ given x
    strictly =
        let r : Reads x.kind (bytes_of x) x.content = reads x.kind x.content p held even in
        read_given strict code (bytes_of x) short some (sym is) (strict_judged code x.kind (bytes_of x) r.right) utf r.clear
        ∙ ap given r.same

    go : (m : Mode) → read m code (bytes_of x) ≡ given x
    go plain = strict_plain code (bytes_of x) x strictly
    go strict = strictly

-- the four bytes of a number of seconds, to code 2
pub seconds_back : (mode : Mode) (z : ℤ) → Seconds z → read mode 2 (digits 4 (unsigned z)) ≡ given (of.value 9 (integer z))
unfolding no_code kind_of kinds lookup within size_of sizes odd_pairs not_text
seconds_back mode z h = value_back mode 2 (of.value 9 (integer z)) (i32 z h) refl refl (omega arith) (λ k. omega arith) refl refl

-- what is written of a kind is walked as one option
module _ (kind code : ℕ) (v tail : List ℕ) (below_16 : kind < 16) (right : wrong_length strict kind v ≡ false)
    (some : no_code code ≡ false) (other : further code tail ≡ run 0 []) where
  walk_kind : (at : ℕ) → 0 < length (encode_kind kind code v)
      → (n : ℕ) × (walk at (encode_kind kind code v ++ tail) ≡ option code v n (at + length (encode_kind kind code v)))
  unfolding parts_of flatten
  walk_kind at h = go (dec_le 15 kind)
    where
      go : Dec (15 ≤ kind)
          → (n : ℕ) × (walk at (encode_kind kind code v ++ tail) ≡ option code v n (at + length (encode_kind kind code v)))
      go (yes p) =
          let is : kind ≡ 15 = omega arith in
          let e : encode_kind kind code v ≡ parts_of code ([] ∷ []) = rw is (encode_flag code v) in
          let none : v ≡ [] = flag_empty v (rw is at right) in
          (1, rw (e, none) (walk_parts code tail other (no_pad code some) (no_end code some) at [] []))
      go (no p) =
          let e : encode_kind kind code v ≡ encode (part_size kind) code v = encode-kind kind code v (λ z. omega arith) in
          let size : 0 < part_size kind = some_part kind (omega arith) in
          let value : 0 < length v = some_value (part_size kind) size code v (omega (arith, ap length e)) in
          let n : ℕ = length (pieces (part_size kind) (drop (part_size kind) v)) + 1 in
          (n, rw e (walk_value code tail other (no_pad code some) (no_end code some) (part_size kind) size at v value))

-- a typed write that is given
module _ {code : ℕ} {x : Value} {room : List ℕ} {place to : ℕ} (w : Written code x room place to)
    (proper : Proper x.kind x.content) where
  abbrev here : List ℕ
  here = put code x

  abbrev after : List ℕ
  after = room_after (write_value code x room place) room place

  -- where something was written, and it is no flag, the value has bytes
  has_bytes : place < to → x.kind < 15 → 0 < length (bytes_of x)
  has_bytes some h =
      let kind : ℕ = x.kind in
      let e : encode_kind kind code (bytes_of x) ≡ encode (part_size kind) code (bytes_of x) = encode-kind kind code (bytes_of x) (λ z. omega arith) in
      some_value (part_size kind) (some_part kind h) code (bytes_of x) (omega (arith, ap length e, w.ends))

  -- an area that has these bytes at the place, and behind them no further part of the code
  reads_in : (mode : Mode) (area tail : List ℕ) (join : ℕ) → length area ≡ length room → drop place area ≡ here ++ tail
      → further code tail ≡ run 0 [] → place < to → most_value ≤ join → read_option mode (step area place join) ≡ given (valued code x to)
  reads_in mode area tail join long from other some joins =
      let v : List ℕ = bytes_of x in
      let held : x.kind < 15 → 0 < length v = has_bytes some in
      let right = (reads x.kind x.content proper held w.even).right in
      let found = walk_kind x.kind code v tail (below_16 w) right w.some other place (omega (arith, w.ends)) in
      rw (
        step_walks area place join (omega (arith, w.short)) (omega (arith, w.inside)),
        from,
        found.1,
        answered join code v found.0 (place + length here) (omega (arith, w.most)),
      )
      (value_given mode code v found.0 (place + length here) x
      (value_back mode code x proper w.some w.is (omega (arith, w.most)) held w.even w.utf))
      ∙ ap (λ (k : ℕ). given (valued code x k)) (sym w.ends)

  -- the room that it leaves, with no further part of the code behind
  pub reads_back : (mode : Mode) (join : ℕ) → place < to → Apart code (drop to room) → most_value ≤ join
      → read_option mode (step after place join) ≡ given (valued code x to)
  reads_back mode join some apart joins =
      let tail : List ℕ = drop (place + length here) room in
      ap (λ (area : List ℕ). read_option mode (step area place join)) w.left
      ∙ reads_in mode (over room place here) tail join (length_over room place here w.inside) (from_over room place here w.inside)
      (apart_none code tail (subst (λ (k : ℕ). Apart code (drop k room)) w.ends apart)) some joins

  -- and that room, closed
  pub closed_back : (mode : Mode) (join closed : ℕ) → place < to → most_value ≤ join → answer_to (close after to) after to ≡ given closed
      → read_option mode (step (room_after (close after to) after to) place join) ≡ given (valued code x to)
  unfolding close into_room
  closed_back mode join closed some joins e =
      let more : List ℕ = here ++ end_code ∷ [] in
      let tail : List ℕ = drop (place + length more) room in
      let l : length more ≡ length here + 1 = length-append here (end_code ∷ []) in
      let len : length after ≡ length room = ap length w.left ∙ length_over room place here w.inside in
      let fit : place + length more ≤ length room = omega (arith, given_fits (close after to) after to closed e, w.ends) in
      let same : room_after (close after to) after to ≡ over room place more =
      given_left (close after to) after to closed e
      ∙ (λ i. over (w.left i) (w.ends i) (end_code ∷ []))
      ∙ over_over room place here (end_code ∷ []) w.inside in
      ap (λ (area : List ℕ). read_option mode (step area place join)) same
      ∙ reads_in mode (over room place more) (end_code ∷ tail) join (length_over room place more fit)
      (from_over room place more fit ∙ append_snoc here end_code tail)
      (further_other code end_code tail (λ z. no_end code w.some (sym z))) some joins
