-- What is made of a row, and what the passes make of it.
-- Assumes nothing.
use mathlib.Core.Path.{◌≡◌, refl, sym, ap, ◌∙◌}
use Prim.Native.Nat.{ℕ, ◌≤◌, ◌<◌, ◌%◌}
use mathlib.Core.Bool.{true, false}
use mathlib.Core.List.{List, [], ◌∷◌, ◌++◌, map, foldl, foldl-append}
use native.Mathlib.Omega.{arith}
use lib.Dec.{lit<}
use lib.ListN.{length, take, drop, length-append, length-drop}
use lib.Seq.{take-append_seam, drop-append_seam, take-length}
use Rattle.std.specs.Prelude.{Option, Some, None, Ok, Err}
use Rattle.facts.specs.BigEndian.{digits, number, number_at}
use Rattle.facts.specs.Pieces.{pieces}
use Rattle.facts.proofs.BigEndian.{number_there}
use Rattle.facts.proofs.Pieces.{pieces_more}
use Rattle.rfc.specs.Numbers.{given, most_bytes, first_refusal}
use Rattle.rfc.specs.Kinds.{size_of, sizes}
use Rattle.rfc.specs.Routes as rfc
use Rattle.rfc.specs.Routes.{route_bytes}
use Rattle.rfc.specs.Classless.{route_rows, route_from}
use Rattle.rfc.specs.Strung.{RowMade, all_checks, all_bytes}
use Rattle.rfc.specs.Moves.{width_for, barred, pair_route, route_out, pair_out, out_rows, old_form_checks, row_back, back_rows}
use Rattle.rfc.proofs.Numbers.{Refuses, here, refuses, Clear, done, next, clears, given_no, first_is, none_first, first_behind, refuses_front, clear_front, clear_behind}
use Rattle.rfc.proofs.Strung.{checks_more, bytes_more}
use Rattle.rfc.proofs.Moves.{old_18, old_19, old_none, out_none, back_more, back-rows, back_bytes, back_checks}
use Rattle.refusal.specs.declared.Refusal.{Refusal}
use Rattle.refusal.specs.declared.Refusal.TheVariants.{DestinationBarred, NoOldForm}
use Rattle.refusal.specs.Told.{named, refusal_of}
use Rattle.laying.specs.Passes.{State, row_of, measured, gauged, put}
use Rattle.laying.specs.declared.Pass.{Pass}
use Rattle.laying.proofs.Passes.{measured_stops, row_bad, row_good, row_refused, row_alike}
use Rattle.laying.proofs.Measured.{none_gauged, known_range}
use Rattle.classless.specs.Rows.{told_by, there, route_of}
use Rattle.classless.specs.declared.Row.{Row}
use Rattle.classless.proofs.Rows.{Ahead, ends, stops, goes, ahead}
use Rattle.moves.specs.Rows.{old_row, back_known}

-- a route that is moved out, by its destination
module _ (r : rfc.Route) where
  pub out_barred : barred r.destination ≡ true → row_of (route_out r) ≡ Err DestinationBarred
  unfolding route_out refusal_of named
  out_barred e = row_bad (route_out r) 18 (first_is (here e)) (lit< tt)

  pub out_free : (n : ℕ) → barred r.destination ≡ false → n ≡ length (route_bytes r) → row_of (route_out r) ≡ Ok n
  unfolding route_out
  out_free n e l = row_good (route_out r) n (omega (arith, none_first (next {n = 18} e done))) l

  -- and one that is moved back
  pub old_barred : barred r.destination ≡ true → row_of (old_row r) ≡ Err DestinationBarred
  unfolding old_row refusal_of named
  old_barred e = row_bad (old_row r) 18 (old_18 r e) (lit< tt)

  module _ (free : barred r.destination ≡ false) where
    pub old_other : (width_for r.destination ≡ r.width → ⊥) → row_of (old_row r) ≡ Err NoOldForm
    unfolding old_row refusal_of named
    old_other e = row_bad (old_row r) 19 (old_19 r free e) (lit< tt)

    pub old_free : width_for r.destination ≡ r.width → row_of (old_row r) ≡ Ok 8
    unfolding old_row
    old_free e = row_good (old_row r) 8 (omega (arith, old_none r free e)) refl

-- four bytes are their first four
four_all : (l : List ℕ) → length l ≡ 4 → take 4 l ≡ l
four_all l e = ap (λ (n : ℕ). take n l) (sym e) ∙ take-length l

-- a pair, read
pub pair_read : (p : List ℕ) → length p ≡ 8 → (d g w : ℕ) → d ≡ number_at 4 p 0 → g ≡ number_at 4 p 4 → w ≡ width_for d
    → record { width = w; destination = d; gateway = g } ≡ pair_route (number (take 4 p)) (number (drop 4 p))
unfolding pair_route
pair_read p eight d g w to via rule =
    let long : length (drop 4 p) ≡ 4 = omega (arith, length-drop 4 p) in
    let first : d ≡ number (take 4 p) = to ∙ number_there 4 p 0 (omega arith) in
    let second : g ≡ number (drop 4 p) = via ∙ number_there 4 p 4 (omega arith) ∙ ap number (four_all (drop 4 p) long) in
    (λ i. record { width = (rule ∙ ap width_for first) i; destination = first i; gateway = second i })

-- one pair of a value
module _ (p rest : List ℕ) (eight : length p ≡ 8) where
  abbrev route : rfc.Route
  route = pair_route (number (take 4 p)) (number (drop 4 p))

  out_front : out_rows (p ++ rest) ≡ route_out route ∷ out_rows rest
  unfolding out_rows pair_out size_of sizes
  out_front =
      let t : take 8 (p ++ rest) ≡ p = ap (λ (n : ℕ). take n (p ++ rest)) (sym eight) ∙ take-append_seam p rest in
      let d : drop 8 (p ++ rest) ≡ rest = ap (λ (n : ℕ). drop n (p ++ rest)) (sym eight) ∙ drop-append_seam p rest in
      ap (map pair_out) (pieces_more 8 (lit< tt) (p ++ rest) (omega (arith, length-append p rest)))
      ∙ (λ i. pair_out (t i) ∷ map pair_out (pieces 8 (d i)))

  pub out_gauged : (s t : Pass) → t ≡ measured s (row_of (route_out route))
      → foldl gauged t (out_rows rest) ≡ foldl gauged s (out_rows (p ++ rest))
  out_gauged s t e = ap (λ (x : Pass). foldl gauged x (out_rows rest)) e ∙ ap (foldl gauged s) (sym out_front)

  pub out_put : (s t : State) → t ≡ foldl put s (route_bytes route)
      → foldl put t (all_bytes (out_rows rest)) ≡ foldl put s (all_bytes (out_rows (p ++ rest)))
  unfolding route_out
  out_put s t e =
      ap (λ (x : State). foldl put x (all_bytes (out_rows rest))) e
      ∙ sym (foldl-append put s (route_bytes route) (all_bytes (out_rows rest)))
      ∙ ap (foldl put s) (sym (ap all_bytes out_front ∙ bytes_more (route_out route) (out_rows rest)))

-- no whole pair is none
pub out_done : (rest : List ℕ) → length rest < 8 → length rest % 8 ≡ 0 → out_rows rest ≡ []
out_done [] h e = out_none
out_done (x ∷ rest) h e = absurd (omega arith)

-- a row of a value that is moved back, by what the reader answers
module _ (v : List ℕ) (at : ℕ) (short : length v ≤ most_bytes) (within : at ≤ length v) where
  abbrev now : List RowMade
  now = back_rows (drop at v)

  -- nothing more
  pub back_ends : told_by there (Ok None) ≡ route_from v at → now ≡ []
  back_ends e = go (ahead v at short (Ok None) e within)
    where
      go : Ahead v at (Ok None) → now ≡ []
      go (ends rows) = sym (back-rows (drop at v)) ∙ ap (map row_back) rows

  -- a refusal: behind it no row is measured
  module _ (f : Refusal) (e : told_by there (Err f) ≡ route_from v at) where
    pub back_stops : (s t : Pass) → t ≡ measured s (Err f) → t ≡ foldl gauged s now
    back_stops s t m = go (ahead v at short (Err f) e within)
      where
        go : Ahead v at (Err f) → t ≡ foldl gauged s now
        go (stops row more rows k r says-k) =
            let known = back_known (drop at v) in
            let first : Refuses (row_back row).checks k = rw (back_checks row) (refuses_front (old_form_checks row.route) r) in
            let own : row_of (row_back row) ≡ Err f =
            row_refused (row_back row) f k first (known_range (rw (back_more more row (drop at v) rows) at known).0 first).0 says-k in
            sym (none_gauged (map row_back more) t (rw m (measured_stops s f)))
            ∙ ap (λ (x : Pass). foldl gauged x (map row_back more)) (m ∙ ap (measured s) (sym own))
            ∙ ap (foldl gauged s) (sym (back_more more row (drop at v) rows))

    pub never_clear : Clear (all_checks now) → ⊥
    never_clear c = go (ahead v at short (Err f) e within)
      where
        go : Ahead v at (Err f) → ⊥
        go (stops row more rows k r says-k) =
            let all : Clear (row_back row).checks =
            clear_front (row_back row).checks (all_checks (map row_back more))
            (rw (ap all_checks (back_more more row (drop at v) rows) ∙ checks_more (row_back row) (map row_back more)) at c) in
            let own : Clear row.checks = clear_front row.checks (old_form_checks row.route) (rw (back_checks row) at all) in
            given_no k k (sym (clears (given k) own) ∙ refuses (given k) r)

  -- a row
  module _ (next : Row) {found : Option Row} (some : found ≡ Some next) (e : told_by there (Ok found) ≡ route_from v at) where
    abbrev behind : List RowMade
    behind = back_rows (drop next.place v)

    pub record Onward : Type 0 where
      pub far : (at < next.place) × (next.place ≤ length v)
      pub measures : (s t : Pass) → t ≡ measured s (row_of (old_row (route_of next.route))) → foldl gauged t behind ≡ foldl gauged s now
      pub clear : Clear (all_checks now) → Clear (all_checks behind)
      pub puts : (s t : State) → t ≡ foldl put s (digits 4 next.route.destination ++ digits 4 next.route.gateway)
          → foldl put t (all_bytes behind) ≡ foldl put s (all_bytes now)

    pub back_goes : Onward
    unfolding old_row
    back_goes = go (ahead v at short (Ok (Some next)) (ap (λ (x : Option Row). told_by there (Ok x)) (sym some) ∙ e) within)
      where
        go : Ahead v at (Ok (Some next)) → Onward
        go (goes row rows clear is on to) =
            let m : RowMade = row_back row in
            let all : now ≡ m ∷ behind =
            back_more (route_rows (drop next.place v)) row (drop at v) rows
            ∙ ap (λ (ms : List RowMade). m ∷ ms) (back-rows (drop next.place v)) in
            let bytes : m.bytes ≡ digits 4 next.route.destination ++ digits 4 next.route.gateway =
            back_bytes row ∙ ap (λ (r : rfc.Route). digits 4 r.destination ++ digits 4 r.gateway) is in
            let checks : first_refusal m.checks ≡ first_refusal (old_form_checks (route_of next.route)) =
            ap first_refusal (back_checks row)
            ∙ first_behind row.checks (old_form_checks row.route) clear
            ∙ ap (λ (r : rfc.Route). first_refusal (old_form_checks r)) is in
            let own : row_of m ≡ row_of (old_row (route_of next.route)) = row_alike m (old_row (route_of next.route)) checks (ap length bytes) in
            record {
              far = (on, to);
              measures = λ s t f. ap (λ (x : Pass). foldl gauged x behind) (f ∙ ap (measured s) (sym own)) ∙ ap (foldl gauged s) (sym all);
              clear = λ c. clear_behind m.checks (rw (ap all_checks all ∙ checks_more m behind) at c);
              puts = λ s t f. ap (λ (x : State). foldl put x (all_bytes behind)) (f ∙ ap (foldl put s) (sym bytes))
                  ∙ sym (foldl-append put s m.bytes (all_bytes behind))
                  ∙ ap (foldl put s) (sym (ap all_bytes all ∙ bytes_more m behind));
            }
