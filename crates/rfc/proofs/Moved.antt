-- Each move as a write, by its checks; and what is known of one that is given.
-- Assumes nothing.
use mathlib.Core.Path.{◌≡◌, refl, ap, ◌∙◌}
use Prim.Native.Nat.{ℕ, ◌+◌, ◌%◌, ◌≤◌, ◌<◌}
use mathlib.Core.Bool.{Bool, true, false, not, ◌||◌}
use mathlib.Core.List.{List, ◌++◌}
use native.Mathlib.Omega.{arith}
use lib.ListN.{length}
use borrow.Author.Tests.{eqb-true, eq-eqb, ne_eqb, not-false}
use Rattle.facts.specs.Over.{over}
use Rattle.rfc.specs.Numbers.{given, refused, most_bytes, most_value, most_part, too_long}
use Rattle.rfc.specs.Kinds.{size_of, sizes}
use Rattle.rfc.specs.Writing.{encode, answer_to, room_after}
use Rattle.rfc.specs.Typed.{part_size, encode_kind}
use Rattle.rfc.specs.Routes.{routes_code}
use Rattle.rfc.specs.Strung.{all_checks, all_bytes}
use Rattle.rfc.specs.Moves.{pairs_code, out_rows, outward, back_rows, backward, lent_checks, pairs_checks, move_out, move_back}
use Rattle.rfc.proofs.Numbers.{Refuses, here, later, Clear, done, next, refuses_front, refuses_behind, clear_both, clear_front, clear_behind, long, not_long, past, not_past, not_too_long, place_within}
use Rattle.rfc.proofs.Typed.{encode-kind}
use Rattle.rfc.proofs.Strung.{Decides, before_rows, strung_decides, strung_given, given_strung, refused_strung, StrungAt, strung_at}

-- what is lent
module _ (v room : List ℕ) (place : ℕ) where
  one_long : most_bytes < length v → (too_long v || too_long room) ≡ true
  one_long h = rw (long v h) refl

  other_long : length v ≤ most_bytes → most_bytes < length room → (too_long v || too_long room) ≡ true
  other_long a h = rw (not_long v a) (long room h)

  none_long : length v ≤ most_bytes → length room ≤ most_bytes → (too_long v || too_long room) ≡ false
  none_long a b = rw (not_long v a) (not_long room b)

  pub value_2 : most_bytes < length v → Refuses (lent_checks v room place) 2
  unfolding lent_checks
  value_2 h = here (one_long h)

  module _ (a : length v ≤ most_bytes) where
    pub room_2 : most_bytes < length room → Refuses (lent_checks v room place) 2
    unfolding lent_checks
    room_2 h = here (other_long a h)

    module _ (b : length room ≤ most_bytes) where
      pub place_4 : length room < place → Refuses (lent_checks v room place) 4
      unfolding lent_checks
      place_4 h = later (none_long a b) (here (past place room h))

      pub lent_clear : place ≤ length room → Clear (lent_checks v room place)
      unfolding lent_checks
      lent_clear h = next (none_long a b) (next (not_past place room h) done)

neither : (a b : Bool) → (a || b) ≡ false → (a ≡ false) × (b ≡ false)
neither true b e = absurd (let z : ◌≡◌ {A = ℕ} 0 1 = cc in omega arith)
neither false b e = (refl, e)

pub clear_lent : (v room : List ℕ) (place : ℕ) → Clear (lent_checks v room place) → (length room ≤ most_bytes) × (place ≤ length room)
unfolding lent_checks
clear_lent v room place (next e (next f c)) =
    (not_too_long room (neither (too_long v) (too_long room) e).1, place_within place room f)

-- whole pairs
pub pairs_10 : (v : List ℕ) → (length v % 8 ≡ 0 → ⊥) → Refuses (pairs_checks v) 10
unfolding pairs_checks size_of sizes
pairs_10 v h = here (ap not (ne_eqb (length v % 8) 0 h))

pub pairs_clear : (v : List ℕ) → length v % 8 ≡ 0 → Clear (pairs_checks v)
unfolding pairs_checks size_of sizes
pairs_clear v h = next (ap not (eq-eqb (length v % 8) 0 h)) done

clear_pairs : (v : List ℕ) → Clear (pairs_checks v) → length v % 8 ≡ 0
unfolding pairs_checks size_of sizes
clear_pairs v (next e c) = eqb-true (length v % 8) 0 (not-false _ e)

-- a pair has eight bytes
pub by_eight : (v : List ℕ) → length v % size_of 3 ≡ length v % 8
unfolding size_of sizes
by_eight v = refl

-- a row that is refused
pub outward_refused : (v : List ℕ) (k : ℕ) → outward v ≡ refused k → Refuses (all_checks (out_rows v)) k
unfolding outward
outward_refused v k e = refused_strung (out_rows v) k e

pub backward_refused : (v : List ℕ) (k : ℕ) → backward v ≡ refused k → Refuses (all_checks (back_rows v)) k
unfolding backward
backward_refused v k e = refused_strung (back_rows v) k e

-- the move out, before its rows and from them on
module _ (v room : List ℕ) (place : ℕ) where
  pub out_lent : (k : ℕ) → Refuses (lent_checks v room place) k → answer_to (move_out v room place) room place ≡ refused k
  unfolding move_out
  out_lent k r = before_rows _ most_part routes_code (out_rows v) room place k (refuses_front (pairs_checks v) r)

  pub out_10 : Clear (lent_checks v room place) → (length v % 8 ≡ 0 → ⊥) → answer_to (move_out v room place) room place ≡ refused 10
  unfolding move_out
  out_10 c h = before_rows _ most_part routes_code (out_rows v) room place 10 (refuses_behind c (pairs_10 v h))

  pub out_decides : Clear (lent_checks v room place) → length v % 8 ≡ 0
      → Decides (move_out v room place) most_part routes_code (out_rows v) room place
  unfolding move_out
  out_decides c h =
      strung_decides (lent_checks v room place ++ pairs_checks v) most_part routes_code (out_rows v) room place (clear_both c (pairs_clear v h))

  -- and the move back
  pub back_lent : (k : ℕ) → Refuses (lent_checks v room place) k → answer_to (move_back v room place) room place ≡ refused k
  unfolding move_back
  back_lent k r = before_rows _ (part_size 3) pairs_code (back_rows v) room place k r

  pub back_decides : Clear (lent_checks v room place) → Decides (move_back v room place) 248 pairs_code (back_rows v) room place
  unfolding move_back part_size size_of sizes
  back_decides c = strung_decides (lent_checks v room place) (part_size 3) pairs_code (back_rows v) room place c

-- a value of option 33 in its parts, as a typed write puts it
pub pairs_kind : (v : List ℕ) → encode_kind 3 pairs_code v ≡ encode 248 pairs_code v
unfolding part_size size_of sizes
pairs_kind v = encode-kind 3 pairs_code v (λ z. omega arith)

-- a move that is given: what it made, and where that stands
module _ (v room : List ℕ) (place to : ℕ) where
  abbrev pub MovedOut : Type 0
  MovedOut = StrungAt (lent_checks v room place ++ pairs_checks v) most_part routes_code (out_rows v) room place to

  pub moved_out : answer_to (move_out v room place) room place ≡ given to → MovedOut
  unfolding move_out
  moved_out e = strung_at (lent_checks v room place ++ pairs_checks v) most_part routes_code (out_rows v) room place to e

  abbrev pub MovedBack : Type 0
  MovedBack = StrungAt (lent_checks v room place) 248 pairs_code (back_rows v) room place to

  pub moved_back : answer_to (move_back v room place) room place ≡ given to → MovedBack
  unfolding move_back part_size size_of sizes
  moved_back e = strung_at (lent_checks v room place) 248 pairs_code (back_rows v) room place to e

  -- what it was made of
  pub out_is : MovedOut → outward v ≡ given (all_bytes (out_rows v))
  unfolding outward
  out_is m = strung_given (out_rows v) m.rows_clear

  pub out_even : MovedOut → length v % size_of 3 ≡ 0
  unfolding size_of sizes
  out_even m = clear_pairs v (clear_behind (lent_checks v room place) m.before_clear)

  pub out_short : MovedOut → length room ≤ most_bytes
  out_short m = (clear_lent v room place (clear_front (lent_checks v room place) (pairs_checks v) m.before_clear)).0

  pub out_left : MovedOut → room_after (move_out v room place) room place ≡ over room place (encode most_part routes_code (all_bytes (out_rows v)))
  unfolding move_out
  out_left m = m.left

-- a move back of what goes back to v, with room
module _ (moved v other : List ℕ) (there : ℕ) (is : backward moved ≡ given v) (small : length moved ≤ most_bytes)
    (most : length v ≤ most_value) (short : length other ≤ most_bytes)
    (room : there + length (encode_kind 3 pairs_code v) ≤ length other) where
  made : Clear (all_checks (back_rows moved)) × (all_bytes (back_rows moved) ≡ v)
  unfolding backward
  made = given_strung (back_rows moved) v is

  abbrev decides : Decides (move_back moved other there) 248 pairs_code (back_rows moved) other there
  decides = back_decides moved other there (lent_clear moved other there small short (omega arith))

  fits : there + length (encode 248 pairs_code (all_bytes (back_rows moved))) ≤ length other
  fits = rw (made.1, ← pairs_kind v) room

  little : length (all_bytes (back_rows moved)) ≤ most_value
  little = rw made.1 most

  pub goes_back : answer_to (move_back moved other there) other there ≡ given (there + length (encode_kind 3 pairs_code v))
  goes_back = decides.to made.0 little fits ∙ rw (made.1, ← pairs_kind v) refl

  pub back_left : room_after (move_back moved other there) other there ≡ over other there (encode_kind 3 pairs_code v)
  back_left = decides.left made.0 little fits ∙ rw (made.1, ← pairs_kind v) refl
