-- Checks that decide alike, and writes that answer and leave the same.
-- Assumes nothing.
use mathlib.Core.Path.{◌≡◌, refl, ap, ◌∙◌}
use Prim.Native.Nat.{ℕ, ◌+◌, ◌≤◌}
use mathlib.Core.Bool.{Bool, false}
use mathlib.Core.List.{List, [], ◌∷◌, ◌++◌}
use lib.ListN.{length}
use Rattle.rfc.specs.Numbers.{Answer, given, most_bytes, most_part, past_end, no_code, too_much, no_room, Check, check, checked}
use Rattle.rfc.specs.Writing.{Write, encode, write_checks, answer_to, room_left, room_after, write_slice, write_bytes}
use Rattle.rfc.proofs.Numbers.{Clear, done, next, not_long, not_past}

-- two runs of checks that decide alike: the tests that may hold are the same, with the same numbers
pub data Alike : List Check → List Check → Type 0 where
  none : Alike [] []
  both : {t u : Bool} {n : ℕ} {cs ds : List Check} → t ≡ u → Alike cs ds → Alike (check t n ∷ cs) (check u n ∷ ds)
  passes_left : {t : Bool} {n : ℕ} {cs ds : List Check} → t ≡ false → Alike cs ds → Alike (check t n ∷ cs) ds
  passes_right : {t : Bool} {n : ℕ} {cs ds : List Check} → t ≡ false → Alike cs ds → Alike cs (check t n ∷ ds)

pub alike : {A : Type 0} {cs ds : List Check} (answer : Answer A) → Alike cs ds → checked cs answer ≡ checked ds answer
unfolding checked
alike answer none = refl
alike answer (both e a) = rw (e, alike answer a)
alike answer (passes_left e a) = rw e (alike answer a)
alike answer (passes_right e a) = rw e (alike answer a)

-- checks that are clear decide as none do
pub clear_none : {cs : List Check} → Clear cs → Alike [] cs
clear_none done = none
clear_none (next e c) = passes_right e (clear_none c)

-- with the same checks behind them
pub alike_front : {cs ds : List Check} (es : List Check) → Alike cs ds → Alike (cs ++ es) (ds ++ es)
alike_front [] none = none
alike_front (check t n ∷ es) none = both refl (alike_front es none)
alike_front es (both e a) = both e (alike_front es a)
alike_front es (passes_left e a) = passes_left e (alike_front es a)
alike_front es (passes_right e a) = passes_right e (alike_front es a)

-- writes of the same bytes whose checks decide alike
module _ {w v : Write} (room : List ℕ) (place : ℕ) (e : w.bytes ≡ v.bytes) (a : Alike w.checks v.checks) where
  pub answers_alike : answer_to w room place ≡ answer_to v room place
  unfolding answer_to write_checks
  answers_alike =
      alike _ (alike_front _ a)
      ∙ ap (λ (b : List ℕ). checked (v.checks ++ check (no_room room place b) 8 ∷ []) (given (place + length b))) e

  pub left_alike : room_after w room place ≡ room_after v room place
  unfolding room_after
  left_alike = ap (λ (r : Answer ℕ). room_left r room place w.bytes) answers_alike ∙ ap (room_left (answer_to v room place) room place) e

-- a write whose checks are clear, where only the end of the room can refuse it: it is the write of its bytes as they stand
pub clear_slice : (w : Write) (room : List ℕ) (place : ℕ) → Clear w.checks → place ≤ length room
    → (answer_to (write_slice w.bytes room place) room place ≡ answer_to w room place)
    × (room_after (write_slice w.bytes room place) room place ≡ room_after w room place)
unfolding write_slice
clear_slice w room place c h =
    let same : Alike (check (past_end place room) 4 ∷ []) w.checks = passes_left (not_past place room h) (clear_none c) in
    (answers_alike room place refl same, left_alike room place refl same)

-- into a room that is not too long, at a place of it: the write of a byte value, where the code and the value's length are checked alike
module _ (w : Write) (code : ℕ) (v room : List ℕ) (place : ℕ) (short : length room ≤ most_bytes) (within : place ≤ length room)
    (bytes : w.bytes ≡ encode most_part code v) (same : Alike w.checks (check (no_code code) 6 ∷ check (too_much v) 7 ∷ [])) where
  checks_alike : Alike w.checks (write_bytes code v room place).checks
  unfolding write_bytes
  checks_alike = passes_right (not_long room short) (passes_right (not_past place room within) same)

  pub as_bytes : (answer_to w room place ≡ answer_to (write_bytes code v room place) room place)
      × (room_after w room place ≡ room_after (write_bytes code v room place) room place)
  unfolding write_bytes
  as_bytes = (answers_alike room place bytes checks_alike, left_alike room place bytes checks_alike)
