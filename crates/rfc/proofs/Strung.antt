-- The laws of `specs/Strung.antt`: a value of one row more, when it is given, and what its write answers.
-- Assumes nothing.
use mathlib.Core.Path.{◌≡◌, refl}
use Prim.Native.Nat.{ℕ, ◌+◌, ◌≤◌, ◌<◌}
use mathlib.Core.List.{List, [], ◌∷◌, ◌++◌}
use lib.ListN.{length}
use Rattle.facts.specs.Over.{over}
use Rattle.rfc.specs.Numbers.{given, refused, most_value, Check, check, too_much}
use Rattle.rfc.specs.Writing.{Write, encode, answer_to, room_after}
use Rattle.rfc.specs.Strung.{RowMade, all_checks, all_bytes, strung, write_strung}
use Rattle.rfc.proofs.Numbers.{Refuses, here, Clear, done, next, clears, passes, refuses_front, refuses_behind, clear_both, given_no, refused_by, much, not_much, not_too_much, clear_front, clear_behind}
use Rattle.rfc.proofs.Writing.{checks_refuse, clear_8, clear_given, given_clear, given_to, given_fits, given_left}

pub checks_none : all_checks [] ≡ []
unfolding all_checks
checks_none = refl

pub checks_more : (m : RowMade) (ms : List RowMade) → all_checks (m ∷ ms) ≡ m.checks ++ all_checks ms
unfolding all_checks
checks_more m ms = refl

pub bytes_none : all_bytes [] ≡ []
unfolding all_bytes
bytes_none = refl

pub bytes_more : (m : RowMade) (ms : List RowMade) → all_bytes (m ∷ ms) ≡ m.bytes ++ all_bytes ms
unfolding all_bytes
bytes_more m ms = refl

-- a value is given exactly where no row is refused
pub strung_given : (ms : List RowMade) → Clear (all_checks ms) → strung ms ≡ given (all_bytes ms)
unfolding strung
strung_given ms c = clears _ c

pub given_strung : (ms : List RowMade) (v : List ℕ) → strung ms ≡ given v → Clear (all_checks ms) × (all_bytes ms ≡ v)
unfolding strung
given_strung ms v e =
    let r = passes (all_checks ms) (given (all_bytes ms)) (given v) (given_no v) e in
    let same = r.1 in
    (r.0, cc)

pub refused_strung : (ms : List RowMade) (k : ℕ) → strung ms ≡ refused k → Refuses (all_checks ms) k
unfolding strung
refused_strung ms k e = refused_by (all_checks ms) (all_bytes ms) k e

-- what a write of such a value answers and leaves, where nothing is refused before its rows
pub record Decides (w : Write) (size code : ℕ) (ms : List RowMade) (room : List ℕ) (place : ℕ) : Type 0 where
  pub by_row : (k : ℕ) → Refuses (all_checks ms) k → answer_to w room place ≡ refused k
  pub by_7 : Clear (all_checks ms) → most_value < length (all_bytes ms) → answer_to w room place ≡ refused 7
  pub by_8 : Clear (all_checks ms) → length (all_bytes ms) ≤ most_value
      → length room < place + length (encode size code (all_bytes ms)) → answer_to w room place ≡ refused 8
  pub to : Clear (all_checks ms) → length (all_bytes ms) ≤ most_value → place + length (encode size code (all_bytes ms)) ≤ length room
      → answer_to w room place ≡ given (place + length (encode size code (all_bytes ms)))
  pub left : Clear (all_checks ms) → length (all_bytes ms) ≤ most_value → place + length (encode size code (all_bytes ms)) ≤ length room
      → room_after w room place ≡ over room place (encode size code (all_bytes ms))

module _ (before : List Check) (size code : ℕ) (ms : List RowMade) (room : List ℕ) (place : ℕ) where
  abbrev w : Write
  w = write_strung before size code ms

  -- the checks behind those
  abbrev last : List Check
  last = check (too_much (all_bytes ms)) 7 ∷ []

  pub before_rows : (k : ℕ) → Refuses before k → answer_to w room place ≡ refused k
  unfolding write_strung
  before_rows k r = checks_refuse w room place (refuses_front (all_checks ms ++ last) r)

  module _ (clear : Clear before) where
    pub by_a_row : (k : ℕ) → Refuses (all_checks ms) k → answer_to w room place ≡ refused k
    unfolding write_strung
    by_a_row k r = checks_refuse w room place (refuses_behind clear (refuses_front last r))

    too-much : Clear (all_checks ms) → most_value < length (all_bytes ms) → answer_to w room place ≡ refused 7
    unfolding write_strung
    too-much c h = checks_refuse w room place (refuses_behind clear (refuses_behind c (here (much (all_bytes ms) h))))

    all_clear : Clear (all_checks ms) → length (all_bytes ms) ≤ most_value → Clear w.checks
    unfolding write_strung
    all_clear c h = clear_both clear (clear_both c (next (not_much (all_bytes ms) h) done))

    no_room : Clear (all_checks ms) → length (all_bytes ms) ≤ most_value
        → length room < place + length (encode size code (all_bytes ms)) → answer_to w room place ≡ refused 8
    unfolding write_strung
    no_room c h g = clear_8 w room place (all_clear c h) g

    goes_to : Clear (all_checks ms) → length (all_bytes ms) ≤ most_value → place + length (encode size code (all_bytes ms)) ≤ length room
        → answer_to w room place ≡ given (place + length (encode size code (all_bytes ms)))
    unfolding write_strung
    goes_to c h g = clear_given w room place (all_clear c h) g

    leaves : Clear (all_checks ms) → length (all_bytes ms) ≤ most_value → place + length (encode size code (all_bytes ms)) ≤ length room
        → room_after w room place ≡ over room place (encode size code (all_bytes ms))
    unfolding write_strung
    leaves c h g = given_left w room place _ (goes_to c h g)

    pub strung_decides : Decides w size code ms room place
    strung_decides = record { by_row = by_a_row; by_7 = too-much; by_8 = no_room; to = goes_to; left = leaves }

-- a write of such a value that is given: no check held, and where it stands
pub record StrungAt (before : List Check) (size code : ℕ) (ms : List RowMade) (room : List ℕ) (place to : ℕ) : Type 0 where
  pub before_clear : Clear before
  pub rows_clear : Clear (all_checks ms)
  pub most : length (all_bytes ms) ≤ most_value
  pub inside : place + length (encode size code (all_bytes ms)) ≤ length room
  pub ends : to ≡ place + length (encode size code (all_bytes ms))
  pub left : room_after (write_strung before size code ms) room place ≡ over room place (encode size code (all_bytes ms))

module _ (before : List Check) (size code : ℕ) (ms : List RowMade) (room : List ℕ) (place to : ℕ)
    (e : answer_to (write_strung before size code ms) room place ≡ given to) where
  abbrev behind : List Check
  behind = all_checks ms ++ check (too_much (all_bytes ms)) 7 ∷ []

  no_checks : Clear (before ++ behind)
  unfolding write_strung
  no_checks = given_clear (write_strung before size code ms) room place to e

  little : Clear (check (too_much (all_bytes ms)) 7 ∷ []) → length (all_bytes ms) ≤ most_value
  little (next f d) = not_too_much (all_bytes ms) f

  pub strung_at : StrungAt before size code ms room place to
  unfolding write_strung
  strung_at =
      let rows = clear_behind before no_checks in
      let wrote = write_strung before size code ms in
      record {
        before_clear = clear_front before behind no_checks;
        rows_clear = clear_front (all_checks ms) _ rows;
        most = little (clear_behind (all_checks ms) rows);
        inside = given_fits wrote room place to e;
        ends = given_to wrote room place to e;
        left = given_left wrote room place to e;
      }
