-- The laws of `specs/Writing.antt`: the bytes of a value, and each writer by its checks.
-- Assumes nothing.
use mathlib.Core.Path.{◌≡◌, refl, sym, ap, ◌∙◌}
use Prim.Native.Nat.{ℕ, ◌+◌, ◌*◌, ◌≤◌, ◌<◌, min}
use native.Mathlib.Omega.{arith}
use mathlib.Core.List.{List, [], ◌∷◌, ◌++◌, flatten, append-nil}
use lib.ListN.{length, take, drop, length-append, length-take, drop_of_length-le}
use lib.Dec.{ltb}
use lib.Seq.{take_all}
use Rattle.facts.specs.Over.{over}
use Rattle.facts.specs.Pieces.{pieces}
use Rattle.facts.proofs.Over.{length_over}
use Rattle.facts.proofs.Least.{take_least, drop_least}
use Rattle.facts.proofs.Pieces.{pieces_none, pieces_more, flatten_pieces, count_pieces}
use Rattle.rfc.specs.Numbers.{Answer, given, refused, needs, most_bytes, most_value, most_part, pad_code, end_code, too_long, past_end, no_room, Check, check, checked}
use Rattle.rfc.specs.Writing.{parts_of, encode, size_in_parts, Write, write_checks, answer_to, room_left, room_after, write_slice, into_room, write_bytes, close}
use Rattle.rfc.proofs.Alike.{clear_slice}
use Rattle.rfc.proofs.Numbers.{Refuses, here, later, refuses, Clear, done, next, clears, passes, refuses_front, refuses_behind, clear_both, clear_front, clear_last, given_no, needs_no, long, not_long, past, not_past, pad-code, end-code, a_code, much, not_much, full, not_full, room-left}

-- two bytes for each part
pub length_parts : (code : ℕ) (ps : List (List ℕ)) → length (parts_of code ps) ≡ 2 * length ps + length (flatten ps)
unfolding parts_of flatten
length_parts code [] = refl
length_parts code (p ∷ ps) =
    omega (arith, length_parts code ps, length-append p (parts_of code ps), length-append p (flatten ps))

module _ (size : ℕ) (some : 0 < size) (code : ℕ) where
  pub encode_none : encode size code [] ≡ []
  unfolding encode parts_of
  encode_none = ap (parts_of code) (pieces_none size)

  pub encode_empty : (v : List ℕ) → length v ≡ 0 → encode size code v ≡ []
  encode_empty [] e = encode_none
  encode_empty (b ∷ v) e = absurd (omega arith)

  pub encode_more : (v : List ℕ) → 0 < length v
      → encode size code v ≡ code ∷ length (take size v) ∷ (take size v ++ encode size code (drop size v))
  unfolding encode parts_of
  encode_more v h = ap (parts_of code) (pieces_more size some v h)

  pub length_encode : (v : List ℕ) → length (encode size code v) ≡ size_in_parts size (length v)
  unfolding encode
  length_encode v =
      omega (arith, length_parts code (pieces size v), count_pieces size some v, ap length (flatten_pieces size some v))

  -- they are its own bytes and, where there is one, a head
  pub encode_takes : (v : List ℕ) → length v + 2 * min 1 (length v) ≤ length (encode size code v)
  encode_takes [] = omega arith
  encode_takes (b ∷ v) =
      let all : List ℕ = b ∷ v in
      omega (arith, length_encode all, count_pieces size some all, ap length (pieces_more size some all (omega arith)))

  -- where something is written, there is a value, and where nothing is, there is none
  pub some_value : (v : List ℕ) → 0 < length (encode size code v) → 0 < length v
  some_value [] h = absurd (omega (arith, ap length encode_none))
  some_value (b ∷ v) h = omega arith

  pub no_value : (v : List ℕ) → length (encode size code v) ≡ 0 → v ≡ []
  no_value [] e = refl
  no_value (b ∷ v) e = absurd (omega (arith, ap length (encode_more (b ∷ v) (omega arith))))

-- a value that fits in one part is one, whatever the most bytes of a part are
pub encode_once : (size code : ℕ) (v : List ℕ) → 0 < length v → length v ≤ size → encode size code v ≡ code ∷ length v ∷ v
encode_once size code v h g =
    let some : 0 < size = omega arith in
    encode_more size some code v h ∙ rw (take_all size v g, drop_of_length-le v g, encode_none size some code, append-nil)

-- two writes answer alike at a place of a room, and leave the same
abbrev pub Alike : Write → Write → List ℕ → ℕ → Type 0
Alike w w' room place = (answer_to w room place ≡ answer_to w' room place) × (room_after w room place ≡ room_after w' room place)

-- any write: what the checks decide, and what is left
module _ (w : Write) (room : List ℕ) (place : ℕ) where
  pub write_refused : {k : ℕ} → Refuses (write_checks w room place) k → answer_to w room place ≡ refused k
  unfolding answer_to
  write_refused r = refuses _ r

  pub write_given : Clear (write_checks w room place) → answer_to w room place ≡ given (place + length w.bytes)
  unfolding answer_to
  write_given c = clears _ c

  pub refused_left : (k : ℕ) → answer_to w room place ≡ refused k → room_after w room place ≡ room
  unfolding room_after room_left
  refused_left k e = ap (λ (a : Answer ℕ). room_left a room place w.bytes) e

  pub given_left : (to : ℕ) → answer_to w room place ≡ given to → room_after w room place ≡ over room place w.bytes
  unfolding room_after room_left
  given_left to e = ap (λ (a : Answer ℕ). room_left a room place w.bytes) e

  -- its own checks decide first, and then the room's end
  pub checks_refuse : {k : ℕ} → Refuses w.checks k → answer_to w room place ≡ refused k
  unfolding write_checks
  checks_refuse r = write_refused (refuses_front _ r)

  pub clear_8 : Clear w.checks → length room < place + length w.bytes → answer_to w room place ≡ refused 8
  unfolding write_checks
  clear_8 c h = write_refused (refuses_behind c (here (full room place w.bytes h)))

  pub clear_given : Clear w.checks → place + length w.bytes ≤ length room → answer_to w room place ≡ given (place + length w.bytes)
  unfolding write_checks
  clear_given c h = write_given (clear_both c (next (not_full room place w.bytes h) done))

  -- where something is given, no check held
  given_passed : (to : ℕ) → answer_to w room place ≡ given to → Clear (write_checks w room place) × (to ≡ place + length w.bytes)
  unfolding answer_to
  given_passed to e =
      let r = passes (write_checks w room place) (given (place + length w.bytes)) (given to) (given_no to) e in
      let n = r.1 in
      (r.0, cc)

  pub given_clear : (to : ℕ) → answer_to w room place ≡ given to → Clear w.checks
  unfolding write_checks
  given_clear to e = clear_front w.checks _ (given_passed to e).0

  pub given_to : (to : ℕ) → answer_to w room place ≡ given to → to ≡ place + length w.bytes
  given_to to e = (given_passed to e).1

  pub given_fits : (to : ℕ) → answer_to w room place ≡ given to → place + length w.bytes ≤ length room
  unfolding write_checks
  given_fits to e = room-left room place w.bytes (clear_last w.checks (no_room room place w.bytes) 8 (given_passed to e).0)

  pub given_keeps : (to : ℕ) → answer_to w room place ≡ given to → length (room_after w room place) ≡ length room
  given_keeps to e = ap length (given_left to e) ∙ length_over room place w.bytes (given_fits to e)

  -- a write has nothing to join
  pub never_needs : (n : ℕ) → answer_to w room place ≡ needs n → ⊥
  unfolding answer_to
  never_needs n e =
      let r = (passes (write_checks w room place) (given (place + length w.bytes)) (needs n) (needs_no n) e).1 in
      let z : ◌≡◌ {A = ℕ} 0 1 = cc in
      omega arith

  -- of a room only its length decides
  pub same_answer : (other : List ℕ) → length room ≡ length other → answer_to w room place ≡ answer_to w other place
  unfolding answer_to write_checks no_room
  same_answer other e =
      ap (λ (n : ℕ). checked (w.checks ++ check (ltb n (place + length w.bytes)) 8 ∷ []) (given (place + length w.bytes))) e

-- some bytes as they stand
module _ (bytes room : List ℕ) (place : ℕ) where
  pub slice_4 : length room < place → answer_to (write_slice bytes room place) room place ≡ refused 4
  unfolding write_slice write_checks
  slice_4 a = write_refused _ room place (here (past place room a))

  module _ (a : place ≤ length room) where
    pub slice_8 : length room < place + length bytes → answer_to (write_slice bytes room place) room place ≡ refused 8
    unfolding write_slice write_checks
    slice_8 b = write_refused _ room place (later (not_past place room a) (here (full room place bytes b)))

    module _ (b : place + length bytes ≤ length room) where
      pub slice_given : answer_to (write_slice bytes room place) room place ≡ given (place + length bytes)
      unfolding write_slice write_checks
      slice_given =
          write_given (write_slice bytes room place) room place (next (not_past place room a) (next (not_full room place bytes b) done))

      pub slice_left : room_after (write_slice bytes room place) room place ≡ over room place bytes
      unfolding write_slice write_checks
      slice_left = given_left (write_slice bytes room place) room place _ slice_given

-- behind the checks of the room and the place, with which a write into a room begins
module _ (room : List ℕ) (place : ℕ) (a : length room ≤ most_bytes) (b : place ≤ length room) where
  pub room_behind : {cs : List Check} {k : ℕ} → Refuses cs k → Refuses (check (too_long room) 2 ∷ check (past_end place room) 4 ∷ cs) k
  room_behind r = later (not_long room a) (later (not_past place room b) r)

  pub room_clear : {cs : List Check} → Clear cs → Clear (check (too_long room) 2 ∷ check (past_end place room) 4 ∷ cs)
  room_clear c = next (not_long room a) (next (not_past place room b) c)

-- bytes as they stand, into a room
module _ (bytes room : List ℕ) (place : ℕ) where
  pub into_2 : most_bytes < length room → answer_to (into_room bytes room place) room place ≡ refused 2
  unfolding into_room write_checks
  into_2 a = write_refused _ room place (here (long room a))

  module _ (a : length room ≤ most_bytes) where
    pub into_4 : length room < place → answer_to (into_room bytes room place) room place ≡ refused 4
    unfolding into_room write_checks
    into_4 b = write_refused _ room place (later (not_long room a) (here (past place room b)))

    module _ (b : place ≤ length room) where
      pub into_8 : length room < place + length bytes → answer_to (into_room bytes room place) room place ≡ refused 8
      unfolding into_room write_checks
      into_8 c = write_refused _ room place (room_behind room place a b (here (full room place bytes c)))

      module _ (c : place + length bytes ≤ length room) where
        pub into_given : answer_to (into_room bytes room place) room place ≡ given (place + length bytes)
        unfolding into_room write_checks
        into_given = write_given _ room place (room_clear room place a b (next (not_full room place bytes c) done))

        pub into_left : room_after (into_room bytes room place) room place ≡ over room place bytes
        unfolding into_room write_checks
        into_left = given_left (into_room bytes room place) room place _ into_given

-- End
module _ (room : List ℕ) (place : ℕ) where
  pub close_2 : most_bytes < length room → answer_to (close room place) room place ≡ refused 2
  unfolding close
  close_2 a = into_2 (end_code ∷ []) room place a

  module _ (a : length room ≤ most_bytes) where
    pub close_4 : length room < place → answer_to (close room place) room place ≡ refused 4
    unfolding close
    close_4 b = into_4 (end_code ∷ []) room place a b

    module _ (b : place ≤ length room) where
      pub close_8 : length room < place + 1 → answer_to (close room place) room place ≡ refused 8
      unfolding close
      close_8 c = into_8 (end_code ∷ []) room place a b c

      module _ (c : place + 1 ≤ length room) where
        pub close_given : answer_to (close room place) room place ≡ given (place + 1)
        unfolding close
        close_given = into_given (end_code ∷ []) room place a b c

        pub close_left : room_after (close room place) room place ≡ over room place (end_code ∷ [])
        unfolding close
        close_left = into_left (end_code ∷ []) room place a b c

-- a byte value
module _ (code : ℕ) (v room : List ℕ) (place : ℕ) where
  abbrev parts : List ℕ
  parts = encode most_part code v

  abbrev write : Write
  write = write_bytes code v room place

  pub bytes_2 : most_bytes < length room → answer_to write room place ≡ refused 2
  unfolding write_bytes write_checks
  bytes_2 a = write_refused write room place (here (long room a))

  module _ (a : length room ≤ most_bytes) where
    pub bytes_4 : length room < place → answer_to write room place ≡ refused 4
    unfolding write_bytes write_checks
    bytes_4 b = write_refused write room place (later (not_long room a) (here (past place room b)))

    module _ (b : place ≤ length room) where
      pub bytes_pad : code ≡ pad_code → answer_to write room place ≡ refused 6
      unfolding write_bytes write_checks
      bytes_pad c = write_refused write room place (room_behind room place a b (here (pad-code code c)))

      module _ (c : code ≡ pad_code → ⊥) where
        pub bytes_end : code ≡ end_code → answer_to write room place ≡ refused 6
        unfolding write_bytes write_checks
        bytes_end d = write_refused write room place (room_behind room place a b (here (end-code code c d)))

        module _ (d : code ≡ end_code → ⊥) where
          pub bytes_7 : most_value < length v → answer_to write room place ≡ refused 7
          unfolding write_bytes write_checks
          bytes_7 e = write_refused write room place (room_behind room place a b (later (a_code code c d) (here (much v e))))

          module _ (e : length v ≤ most_value) where
            -- only the end of the room can refuse it: it is the write of its parts as they stand
            pub bytes_slice : Alike (write_slice parts room place) write room place
            unfolding write_bytes
            bytes_slice = clear_slice write room place (room_clear room place a b (next (a_code code c d) (next (not_much v e) done))) b

            module _ (f : place + length parts ≤ length room) where
              pub bytes_given : answer_to write room place ≡ given (place + length parts)
              bytes_given = sym bytes_slice.0 ∙ slice_given parts room place b f

              pub bytes_left : room_after write room place ≡ over room place parts
              bytes_left = sym bytes_slice.1 ∙ slice_left parts room place b f

-- the next part by the number of its bytes, as code that counts them has it
pub encode_next : (size : ℕ) → 0 < size → (code : ℕ) (v : List ℕ) (n : ℕ) → 0 < length v → n ≡ min size (length v)
    → encode size code v ≡ code ∷ n ∷ (take n v ++ encode size code (drop n v))
encode_next size some code v n h e = rw (e, take_least, drop_least, ← (length-take size v)) (encode_more size some code v h)
