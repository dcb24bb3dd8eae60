-- Each move as a whole: what its functions promise, put together.
-- Assumes nothing.
use mathlib.Core.Path.{◌≡◌, refl}
use Prim.Native.Nat.{ℕ, ◌%◌, ◌≤◌, ◌<◌}
use mathlib.Core.List.{List}
use lib.Dec.{lit<}
use lib.ListN.{length}
use Rattle.std.specs.Prelude.{Some, Result, Err}
use Rattle.rfc.specs.Numbers.{refused, most_bytes, most_part}
use Rattle.rfc.specs.Writing.{answer_to}
use Rattle.rfc.specs.Routes.{routes_code}
use Rattle.rfc.specs.Moves.{pairs_code, out_rows, back_rows, move_out, move_back}
use Rattle.rfc.proofs.Moved.{value_2, room_2, place_4, lent_clear, out_lent, out_10, out_decides, back_lent, back_decides}
use Rattle.refusal.specs.declared.Refusal.{Refusal}
use Rattle.refusal.specs.declared.Refusal.TheVariants.{TooLong, WrongLength}
use Rattle.encoder.specs.Written.{Wrote}
use Rattle.encoder.proofs.Answers.{refuses}
use Rattle.laying.specs.Passes.{begun, laid}
use Rattle.laying.specs.declared.Pass.{Pass}
use Rattle.laying.proofs.Passes.{Going}
use Rattle.laying.proofs.Together.{Done, begun_ready, begun_stops, both_passes}
use Rattle.moves.specs.Rows.{out_known, back_known}

-- the move out
module _ (v room : List ℕ) (place : ℕ) where
  pub out_long : most_bytes < length v → Wrote (move_out v room place) room room place (Err TooLong)
  out_long h = refuses (move_out v room place) room place TooLong 2 refl (out_lent v room place 2 (value_2 v room place h))

  module _ (short : length v ≤ most_bytes) (p : Pass) (begins : p ≡ begun (length room) place routes_code most_part) where
    by_2 : most_bytes < length room → answer_to (move_out v room place) room place ≡ refused 2
    by_2 a = out_lent v room place 2 (room_2 v room place short a)

    by_4 : length room ≤ most_bytes → length room < place → answer_to (move_out v room place) room place ≡ refused 4
    by_4 a b = out_lent v room place 4 (place_4 v room place short a b)

    pub out_refused : (e : Refusal) → p.refusal ≡ Some e → Wrote (move_out v room place) room room place (Err e)
    out_refused = begun_stops (move_out v room place) most_part routes_code (out_rows v) room place p begins by_2 by_4

    pub out_odd : Going p → (length v % 8 ≡ 0 → ⊥) → Wrote (move_out v room place) room room place (Err WrongLength)
    out_odd going odd =
        let r = begun_ready (move_out v room place) most_part routes_code (out_rows v) room place p begins going in
        refuses (move_out v room place) room place WrongLength 10 refl (out_10 v room place (lent_clear v room place short r.0 r.1) odd)

    pub out_moves : length v % 8 ≡ 0 → (d : Result ℕ Refusal × List ℕ) → d ≡ laid p (out_rows v) room
        → Done (move_out v room place) most_part routes_code (out_rows v) room place d
    out_moves even d e =
        rw e
        (both_passes (move_out v room place) most_part routes_code (out_rows v) room place p begins by_2 by_4 (lit< tt) (out_known v)
        (λ a b. out_decides v room place (lent_clear v room place short a b) even))

-- the move back
module _ (v room : List ℕ) (place : ℕ) where
  pub back_long : most_bytes < length v → Wrote (move_back v room place) room room place (Err TooLong)
  back_long h = refuses (move_back v room place) room place TooLong 2 refl (back_lent v room place 2 (value_2 v room place h))

  module _ (short : length v ≤ most_bytes) (p : Pass) (begins : p ≡ begun (length room) place pairs_code 248) where
    back_2 : most_bytes < length room → answer_to (move_back v room place) room place ≡ refused 2
    back_2 a = back_lent v room place 2 (room_2 v room place short a)

    back_4 : length room ≤ most_bytes → length room < place → answer_to (move_back v room place) room place ≡ refused 4
    back_4 a b = back_lent v room place 4 (place_4 v room place short a b)

    pub back_refused : (e : Refusal) → p.refusal ≡ Some e → Wrote (move_back v room place) room room place (Err e)
    back_refused = begun_stops (move_back v room place) 248 pairs_code (back_rows v) room place p begins back_2 back_4

    pub back_moves : (d : Result ℕ Refusal × List ℕ) → d ≡ laid p (back_rows v) room
        → Done (move_back v room place) 248 pairs_code (back_rows v) room place d
    back_moves d e =
        rw e
        (both_passes (move_back v room place) 248 pairs_code (back_rows v) room place p begins back_2 back_4 (lit< tt) (back_known v)
        (λ a b. back_decides v room place (lent_clear v room place short a b)))
