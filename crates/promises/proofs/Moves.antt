-- Ticket 6's promises hold, by the laws of `rfc`.
-- Assumes nothing.
use mathlib.Core.Path.{◌≡◌, refl, sym, ap, ◌∙◌, subst}
use Prim.Native.Nat.{ℕ, ◌+◌, ◌<◌}
use mathlib.Core.List.{List, [], ◌∷◌}
use native.Mathlib.Omega.{arith}
use lib.Dec.{lit<}
use lib.ListN.{length, drop}
use Rattle.facts.specs.Pieces.{pieces}
use Rattle.rfc.specs.Numbers.{given, most_value, most_part}
use Rattle.rfc.specs.Walk.{step, option}
use Rattle.rfc.specs.Writing.{encode}
use Rattle.rfc.specs.Typed.{Apart}
use Rattle.rfc.specs.Classless.{row_checks}
use Rattle.rfc.specs.Routes.{routes_code}
use Rattle.rfc.specs.Strung.{all_bytes}
use Rattle.rfc.specs.Moves.{out_rows, back_rows, backward, pairs_code, route_out, pair_out, row_back, old_form_checks, lent_checks, pairs_checks}
use Rattle.rfc.proofs.Classless.{routes_read_back}
use Rattle.rfc.proofs.Moves as moves
use Rattle.rfc.proofs.Moved.{lent_clear, by_eight, outward_refused, backward_refused, out_10, out_decides, back_decides, moved_out, moved_back, out_is, out_even, out_short, out_left, goes_back, back_left}
use Rattle.rfc.proofs.Parts.{value_found}
use Rattle.rfc.proofs.Strung.{bytes_none}
use Rattle.rfc.proofs.Writing.{encode_none, no_value, some_value}
use Rattle.promises.specs.Order.{follows}
use Rattle.promises.specs.Moves.{RoutesReadBack, PairsComeBack, RoutesComeBack, OutAndBack, MovesNothing, RowsComeFirst, OrderInRow}

pub routes_read : RoutesReadBack
routes_read rs fit h = routes_read_back rs fit h

pub pairs_come_back : PairsComeBack
pairs_come_back v moved b even e = moves.pairs_come_back v moved b even e

pub routes_come_back : RoutesComeBack
routes_come_back v moved b e = moves.routes_come_back v moved b e

pub out_and_back : OutAndBack
out_and_back v room other place to there b most e some apart short fits =
    let m = moved_out v room place to e in
    let x : List ℕ = all_bytes (out_rows v) in
    let back : backward x ≡ given v = moves.pairs_come_back v x b (out_even v room place to m) (out_is v room place to m) in
    let some-x = some_value most_part (lit< tt) routes_code x (omega (arith, m.ends)) in
    let n : ℕ = length (pieces most_part (drop most_part x)) + 1 in
    record {
      moved = x;
      parts = n;
      found =
          ap (λ (area : List ℕ). step area place most_value) (out_left v room place to m)
          ∙ value_found most_part routes_code x room place most_value (lit< tt) (λ z. omega arith) (λ z. omega arith)
          (out_short v room place to m) m.inside some-x m.most (subst (λ (k : ℕ). Apart routes_code (drop k room)) m.ends apart)
          ∙ ap (λ (k : ℕ). given (option routes_code x n k)) (sym m.ends);
      answered = goes_back x v other there back (omega (arith, m.most)) most short fits;
      left = back_left x v other there back (omega (arith, m.most)) most short fits;
    }

-- a value from which nothing, or something, is written
nothing_of : (size code : ℕ) → 0 < size → (made : List ℕ → List ℕ) → ((v : List ℕ) → 0 < length v → 0 < length (made v)) → made [] ≡ []
    → (v : List ℕ) (place to : ℕ) → to ≡ place + length (encode size code (made v)) → (to ≡ place → v ≡ []) × (v ≡ [] → to ≡ place)
nothing_of size code some made more none v place to e = (empty v e, full v e)
  where
    empty : (v : List ℕ) → to ≡ place + length (encode size code (made v)) → to ≡ place → v ≡ []
    empty [] e h = refl
    empty (x ∷ v) e h =
        let z : made (x ∷ v) ≡ [] = no_value size some code (made (x ∷ v)) (omega arith) in
        absurd (omega (arith, ap length z, more (x ∷ v) (omega arith)))

    full : (v : List ℕ) → to ≡ place + length (encode size code (made v)) → v ≡ [] → to ≡ place
    full v e h =
        let z : encode size code (made v) ≡ [] = ap (encode size code) (ap made h ∙ none) ∙ encode_none size some code in
        omega (arith, ap length z)

pub moves_nothing : MovesNothing
moves_nothing v room place to = (
  (λ e. nothing_of most_part routes_code (lit< tt) (λ (x : List ℕ). all_bytes (out_rows x)) moves.out_some
      (ap all_bytes moves.out_none ∙ bytes_none)
      v place to (moved_out v room place to e).ends),
  (λ e. nothing_of 248 pairs_code (lit< tt) (λ (x : List ℕ). all_bytes (back_rows x)) moves.back_some
      (ap all_bytes moves.back_none ∙ bytes_none)
      v place to (moved_back v room place to e).ends),
)

pub rows_come_first : RowsComeFirst
rows_come_first v room place k a b c =
    let lent = lent_clear v room place a b c in (
      (λ odd. out_10 v room place lent (λ even. odd (by_eight v ∙ even))),
      (λ even e. (out_decides v room place lent (sym (by_eight v) ∙ even)).by_row k (outward_refused v k e)),
      (λ e. (back_decides v room place lent).by_row k (backward_refused v k e)),
    )

pub order_in_row : OrderInRow
unfolding follows lent_checks pairs_checks route_out pair_out row_back old_form_checks row_checks
order_in_row v room pair rest place width route = (refl, refl)
