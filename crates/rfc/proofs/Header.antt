-- The laws of `specs/Header.antt`: which messages are refused, and what each reading of the others answers.
-- Assumes nothing.
use mathlib.Core.Path.{◌≡◌, refl, sym, ap, ◌∙◌}
use Prim.Native.Nat.{ℕ, suc, ◌+◌, ◌-◌, ◌≤◌, ◌<◌}
use native.Mathlib.Omega.{arith}
use native.Mathlib.Decide.{dec_le}
use mathlib.Core.Bool.{Bool, true, false, cond}
use mathlib.Core.List.{List, [], ◌∷◌, ◌++◌, append-nil}
use lib.Dec.{eqb, ltb}
use lib.ListN.{length, take, drop, length-take}
use lib.Seq.{take-take, take-add, drop-drop}
use borrow.Author.Tests.{lt-ltb, le-ltb, ltb-false}
use Rattle.facts.specs.BigEndian.{number}
use Rattle.rfc.specs.Numbers.{given, refused, least_message, most_bytes}
use Rattle.rfc.specs.Header.{Part, part, bytes_of, hlen, chaddr_field, sname_field, file_field, magic_field, message_checks, field, hlen_of, spills, Address, address, chaddr_cut, chaddr_checks, chaddr, until_zero, text_field, sname, file, magic, magic_right, options, wrong_magic, area_start, area}
use Rattle.rfc.proofs.Numbers.{Refuses, here, later, refuses, Clear, done, next, clears, clear_last, passes, refuses_front, refuses_behind, clear_both, given_no, long, not_long, not_too_long, short, not_short, long_enough}

module _ (message : List ℕ) where
  -- the checks of every reading
  pub message_long : most_bytes < length message → Refuses (message_checks message) 2
  unfolding message_checks
  message_long h = here (long message h)

  pub message_short : length message ≤ most_bytes → length message < least_message → Refuses (message_checks message) 1
  unfolding message_checks
  message_short h g = later (not_long message h) (here (short message g))

  pub message_read : length message ≤ most_bytes → least_message ≤ length message → Clear (message_checks message)
  unfolding message_checks
  message_read h g = next (not_long message h) (next (not_short message g) done)

  -- they know two numbers
  pub message_refusal : {k : ℕ} → Refuses (message_checks message) k → k ≤ 2
  unfolding message_checks
  message_refusal (here e) = omega arith
  message_refusal (later e (here g)) = omega arith
  message_refusal (later e (later _ r)) = elim r [ ]

  -- a message that is read has the whole header
  pub header_whole : Clear (message_checks message) → least_message ≤ length message
  unfolding message_checks
  header_whole (next e (next g done)) = long_enough message g

  -- and no more bytes than a message may have
  pub header_most : Clear (message_checks message) → length message ≤ most_bytes
  unfolding message_checks
  header_most (next e c) = not_too_long message e

  -- a field, and back from its answer
  module _ (f : Part) where
    pub field_refused : {k : ℕ} → Refuses (message_checks message) k → field f message ≡ refused k
    unfolding field
    field_refused r = refuses _ r

    pub field_given : Clear (message_checks message) → field f message ≡ given (number (bytes_of f message))
    unfolding field
    field_given c = clears _ c

    -- a text field
    pub text_refused : {k : ℕ} → Refuses (message_checks message) k → text_field f message ≡ refused k
    unfolding text_field
    text_refused r = refuses _ r

    pub text_given : Clear (message_checks message) → text_field f message ≡ given (part f.start (until_zero (bytes_of f message)))
    unfolding text_field
    text_given c = clears _ c

  pub sname_text : sname message ≡ text_field sname_field message
  unfolding sname
  sname_text = refl

  pub file_text : file message ≡ text_field file_field message
  unfolding file
  file_text = refl

  -- chaddr, by what hlen reads
  pub chaddr_refused : {k : ℕ} → Refuses (message_checks message) k → chaddr message ≡ refused k
  unfolding chaddr chaddr_checks
  chaddr_refused r = refuses _ (refuses_front _ r)

  pub hlen_read : hlen_of message ≡ number (bytes_of hlen message)
  unfolding hlen_of
  hlen_read = refl

  module _ (c : Clear (message_checks message)) (n : ℕ) (e : n ≡ hlen_of message) where
    pub chaddr-cut : length message < chaddr_field.start + n → chaddr message ≡ refused 3
    unfolding chaddr chaddr_checks chaddr_cut
    chaddr-cut h = refuses _ (refuses_behind c (here (rw (sym e) (lt-ltb (length message) (28 + n) h))))

    pub chaddr_given : chaddr_field.start + n ≤ length message → chaddr message ≡ given (address n)
    unfolding chaddr chaddr_checks chaddr_cut
    chaddr_given h =
        clears _ (clear_both c (next (rw (sym e) (le-ltb (length message) (28 + n) h)) done))
        ∙ ap (λ (k : ℕ). given (address k)) (sym e)

  -- back from its answer: it is that of hlen, and what is shown is there
  pub given_chaddr : (x : Address) → chaddr message ≡ given x
      → (address (hlen_of message) ≡ x) × (chaddr_field.start + hlen_of message ≤ length message)
  unfolding chaddr chaddr_checks chaddr_cut
  given_chaddr x e =
      let q = passes (chaddr_checks message) _ (given x) (given_no x) e in
      let same : given (address (hlen_of message)) ≡ given x = q.1 in
      (cc, ltb-false (length message) _ (clear_last (message_checks message) (chaddr_cut message) 3 q.0))

  pub chaddr_inside : (x : Address) → chaddr message ≡ given x → x.shown.start + x.shown.len ≤ length message
  chaddr_inside x e = let q = given_chaddr x e in rw (← q.0) q.1

  -- the magic
  pub magic_read : magic_right message ≡ eqb (number (bytes_of magic_field message)) (number magic)
  unfolding magic_right
  magic_read = refl

  -- the area, by the magic
  pub area_refused : {k : ℕ} → Refuses (message_checks message) k → area message ≡ refused k
  unfolding area
  area_refused r = refuses _ r

  module _ (c : Clear (message_checks message)) where
    pub area_wrong : magic_right message ≡ false → area message ≡ given wrong_magic
    unfolding area
    area_wrong e = clears _ c ∙ rw e

    pub area_given : magic_right message ≡ true → area message ≡ given (options (part area_start (length message - area_start)))
    unfolding area
    area_given e = clears _ c ∙ rw e

  pub area_inside : (p : Part) → area message ≡ given (options p) → p.start + p.len ≤ length message
  unfolding area
  area_inside p e =
      let q = passes (message_checks message) _ (given (options p)) (given_no (options p)) e in
      go (magic_right message) q.1 (header_whole q.0)
    where
      go : (t : Bool) → given (cond t (options (part area_start (length message - area_start))) wrong_magic) ≡ given (options p)
          → least_message ≤ length message → p.start + p.len ≤ length message
      go true same h = let is : part area_start (length message - area_start) ≡ p = cc in rw (← is) (omega arith)
      go false same h = absurd (let z : ◌≡◌ {A = ℕ} 0 1 = cc in omega arith)

-- whether an address of so many bytes spills
pub spills_read : (n : ℕ) → spills n ≡ ltb chaddr_field.len n
unfolding spills
spills_read n = refl

-- its bytes are so many of the field, and then those behind the field
pub address_bytes : (n : ℕ) (message : List ℕ) → let x = address n in
    bytes_of x.shown message ≡ take x.own (bytes_of chaddr_field message) ++ take (n - x.own) (drop sname_field.start message)
address_bytes n message = go (dec_le n 16)
  where
    from : List ℕ
    from = drop 28 message

    go : Dec (n ≤ 16) → take n from ≡ take (address n).own (take 16 from) ++ take (n - (address n).own) (drop 44 message)
    go (yes h) =
        let all : (address n).own ≡ n = omega arith in
        let none : n - n ≡ 0 = omega arith in
        rw (all, none, take-take n 16 from h) (sym (append-nil (take n from)))
    go (no h) =
        let full : (address n).own ≡ 16 = omega arith in
        let more : n ≡ 16 + (n - 16) = omega arith in
        rw (full, take-take 16 16 from (omega arith), ← (drop-drop 16 28 message)) (ap (λ (k : ℕ). take k from) more ∙ take-add 16 (n - 16) from)

-- no more bytes stand before the first zero than there are
zero_within : (bytes : List ℕ) → until_zero bytes ≤ length bytes
unfolding until_zero
zero_within [] = omega arith
zero_within (b ∷ rest) = go (eqb b 0) (zero_within rest)
  where
    go : (t : Bool) → until_zero rest ≤ length rest → cond t 0 (suc (until_zero rest)) ≤ suc (length rest)
    go true h = omega arith
    go false h = omega arith

-- nor than the field has
pub text_within : (f : Part) (message : List ℕ) → until_zero (bytes_of f message) ≤ f.len
text_within f message =
    omega (arith, zero_within (bytes_of f message), length-take f.len (drop f.start message))
