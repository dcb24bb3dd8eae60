-- A scan over all rows of a value: the rows that were seen, one more, and what the reader says of all.
-- Assumes nothing.
use mathlib.Core.Path.{◌≡◌, refl, sym, ap, ◌∙◌}
use Prim.Native.Nat.{ℕ, zero, suc, ◌+◌, ◌≤◌, ◌<◌}
use mathlib.Core.List.{List, [], ◌∷◌, ◌++◌, append_assoc}
use native.Mathlib.Omega.{arith}
use native.Mathlib.Decide.{dec_le}
use lib.ListN.{length, drop, length-append}
use Rattle.std.proofs.lemmas.List.{append-nil}
use Rattle.std.specs.Prelude.{Option, Some, None, Result, Ok, Err}
use Rattle.rfc.specs.Numbers.{Answer, given, refused, most_bytes, and_then}
use Rattle.rfc.specs.Routes as rfc
use Rattle.rfc.specs.Classless.{RouteRow, route_rows, all_row_checks, all_routes, read_routes, nth, route_from, RouteThere, no_route, route}
use Rattle.rfc.proofs.Numbers.{Clear, done, refuses_front, refuses_behind, clear_both, given_goes_on, refused_stands}
use Rattle.rfc.proofs.Classless.{from_2, from_end, row_none_checks, row-checks, row_none_routes, row_routes, read_2, read_refused, read_given, nth_4, nth_first, nth_later, at_refused, at_given}
use Rattle.refusal.specs.declared.Refusal.{Refusal}
use Rattle.refusal.proofs.Told.{says_then}
use Rattle.refusal.specs.Told.{says}
use Rattle.classless.specs.Rows.{told_by, route_of, there, how_many, route_there, Scanned}
use Rattle.classless.specs.declared.Row.{Row}
use Rattle.classless.specs.declared.Scan.{Scan}
use Rattle.classless.proofs.Rows.{says_same, short_given, Ahead, ends, stops, goes, ahead}

-- rows behind others
checks_both : (xs ys : List RouteRow) → all_row_checks (xs ++ ys) ≡ all_row_checks xs ++ all_row_checks ys
checks_both [] ys = ap (λ l. l ++ all_row_checks ys) (sym row_none_checks)
checks_both (x ∷ xs) ys =
    row-checks x (xs ++ ys) ∙ ap (λ l. x.checks ++ l) (checks_both xs ys)
    ∙ sym (append_assoc x.checks (all_row_checks xs) (all_row_checks ys))
    ∙ ap (λ l. l ++ all_row_checks ys) (sym (row-checks x xs))

routes_both : (xs ys : List RouteRow) → all_routes (xs ++ ys) ≡ all_routes xs ++ all_routes ys
routes_both [] ys = ap (λ l. l ++ all_routes ys) (sym row_none_routes)
routes_both (x ∷ xs) ys =
    row_routes x (xs ++ ys) ∙ ap (λ l. x.route ∷ l) (routes_both xs ys) ∙ ap (λ l. l ++ all_routes ys) (sym (row_routes x xs))

one_checks : (r : RouteRow) → Clear r.checks → Clear (all_row_checks (r ∷ []))
one_checks r c = rw (row-checks r [], row_none_checks) (clear_both c done)

one_route : (r : RouteRow) → all_routes (r ∷ []) ≡ r.route ∷ []
one_route r = row_routes r [] ∙ ap (λ l. r.route ∷ l) row_none_routes

-- the route at an index, with one more at the end
nth_here : (rs : List rfc.Route) (r : rfc.Route) → nth (length rs) (rs ++ r ∷ []) ≡ given r
nth_here [] r = nth_first r []
nth_here (x ∷ rs) r = nth_later (length rs) x (rs ++ r ∷ []) ∙ nth_here rs r

nth_other : (index : ℕ) (rs : List rfc.Route) (r : rfc.Route) → (length rs ≡ index → ⊥) → nth index (rs ++ r ∷ []) ≡ nth index rs
nth_other zero [] r h = absurd (h refl)
nth_other (suc index) [] r h = nth_later index r [] ∙ nth_4 index [] (omega arith) ∙ sym (nth_4 (suc index) [] (omega arith))
nth_other zero (x ∷ rs) r h = nth_first x (rs ++ r ∷ []) ∙ sym (nth_first x rs)
nth_other (suc index) (x ∷ rs) r h =
    nth_later index x (rs ++ r ∷ []) ∙ nth_other index rs r (λ e. h (ap suc e)) ∙ sym (nth_later index x rs)

-- the rows up to a place were seen: none of them is refused, they are so many, and by the place that is kept the route at the index is one
-- of theirs
pub record Seen (index : ℕ) (v : List ℕ) (at : ℕ) (s : Scan) : Type 0 where
  pub before : List RouteRow
  pub all : route_rows v ≡ before ++ route_rows (drop at v)
  pub clear : Clear (all_row_checks before)
  pub count : s.count ≡ length (all_routes before)
  pub placed : length v ≤ most_bytes → and_then (route_from v s.place) route_there ≡ nth index (all_routes before)

module _ (index : ℕ) (v : List ℕ) where
  pub seen_none : Seen index v 0 (record { count = 0; place = length v })
  seen_none =
      record {
        before = [];
        all = refl;
        clear = rw row_none_checks done;
        count = ap length (sym row_none_routes);
        placed = λ short. ap (λ (a : Answer RouteThere). and_then a route_there) (from_end v (length v) short refl) ∙ given_goes_on route_there no_route
            ∙ sym (ap (nth index) row_none_routes ∙ nth_4 index [] (omega arith));
      }

  module _ (at : ℕ) (s : Scan) (seen : Seen index v at s) where
    -- one row more
    module _ (row : RouteRow) (next : Row) (rows : route_rows (drop at v) ≡ row ∷ route_rows (drop next.place v)) (c : Clear row.checks)
        (r : row.route ≡ route_of next.route) (e : told_by there (Ok (Some next)) ≡ route_from v at) where
      abbrev now : List RouteRow
      now = seen.before ++ row ∷ []

      now_routes : all_routes now ≡ all_routes seen.before ++ route_of next.route ∷ []
      now_routes =
          routes_both seen.before (row ∷ []) ∙ ap (λ l. all_routes seen.before ++ l) (one_route row)
          ∙ ap (λ (x : rfc.Route). all_routes seen.before ++ x ∷ []) r

      more : (place : ℕ) → (length v ≤ most_bytes → and_then (route_from v place) route_there ≡ nth index (all_routes seen.before ++ route_of next.route ∷ []))
          → Seen index v next.place (record { count = s.count + 1; place = place })
      more place f =
          record {
            before = now;
            all = seen.all ∙ ap (λ l. seen.before ++ l) rows ∙ sym (append_assoc seen.before (row ∷ []) (route_rows (drop next.place v)));
            clear = rw (checks_both seen.before (row ∷ [])) (clear_both seen.clear (one_checks row c));
            count = omega (arith, seen.count, ap length now_routes, length-append (all_routes seen.before) (route_of next.route ∷ []));
            placed = λ short. f short ∙ ap (nth index) (sym now_routes);
          }

      pub seen_here : s.count ≡ index → Seen index v next.place (record { count = s.count + 1; place = at })
      seen_here h =
          more at
          (λ short. ap (λ (a : Answer RouteThere). and_then a route_there) (sym e)
          ∙ given_goes_on route_there (route (route_of next.route) next.place) ∙ sym (ap (λ (k : ℕ). nth k (all_routes seen.before ++ route_of next.route ∷ [])) (sym h ∙ seen.count)
          ∙ nth_here (all_routes seen.before) (route_of next.route)))

      pub seen_other : (s.count ≡ index → ⊥) → Seen index v next.place (record { count = s.count + 1; place = s.place })
      seen_other h =
          more s.place (λ short. seen.placed short ∙ sym (nth_other index (all_routes seen.before) (route_of next.route) (λ g. h (seen.count ∙ g))))

    -- what is answered there: nothing more
    module _ (within : at ≤ length v) where
      pub seen_ends : told_by there (Ok None) ≡ route_from v at → Scanned index v (Ok s)
      unfolding how_many
      seen_ends e = go short (ahead v at short (Ok None) e within)
        where
          short : length v ≤ most_bytes
          short = short_given v at None e

          go : length v ≤ most_bytes → Ahead v at (Ok None) → Scanned index v (Ok s)
          go short (ends rows) =
              let none : route_rows v ≡ seen.before = seen.all ∙ ap (λ l. seen.before ++ l) rows ∙ append-nil seen.before in
              let read : read_routes v ≡ given (all_routes seen.before) =
              read_given v short (rw none seen.clear) ∙ ap (λ (rs : List RouteRow). given (all_routes rs)) none in
              record {
                count = ap given seen.count ∙ sym (ap how_many read ∙ given_goes_on (λ (rs : List rfc.Route). given (length rs)) _);
                placed = seen.placed short ∙ sym (at_given index v _ read);
              }

      -- a refusal
      refused_scan : (e : Refusal) (k : ℕ) → says {A = ℕ} e ≡ refused k → read_routes v ≡ refused k → Scanned index v (Err e)
      unfolding how_many
      refused_scan e k t r =
          record {
            count = t ∙ sym (ap how_many r ∙ refused_stands (λ (rs : List rfc.Route). given (length rs)) k);
            placed = says_same e k t ∙ sym (at_refused index k v r);
          }

      pub seen_stops : (e : Refusal) → told_by there (Err e) ≡ route_from v at → Scanned index v (Err e)
      seen_stops e f = by_length (dec_le (length v) most_bytes)
        where
          go : length v ≤ most_bytes → Ahead v at (Err e) → Scanned index v (Err e)
          go short (stops row rest rows k r t) =
              refused_scan e k t
              (read_refused v short k
              (rw (seen.all ∙ ap (λ l. seen.before ++ l) rows, checks_both seen.before (row ∷ rest), row-checks row rest)
              (refuses_behind seen.clear (refuses_front (all_row_checks rest) r))))

          by_length : Dec (length v ≤ most_bytes) → Scanned index v (Err e)
          by_length (yes short) = go short (ahead v at short (Err e) f within)
          by_length (no long) =
              refused_scan e 2 (says_same e 2 (f ∙ from_2 v at (omega arith))) (read_2 v (omega arith))

      -- a row
      pub seen_goes : (next : Row) → told_by there (Ok (Some next)) ≡ route_from v at
          → (at < next.place) × (next.place ≤ length v)
          × (s.count ≡ index → Seen index v next.place (record { count = s.count + 1; place = at }))
          × ((s.count ≡ index → ⊥) → Seen index v next.place (record { count = s.count + 1; place = s.place }))
      seen_goes next e = go (ahead v at (short_given v at (Some next) e) (Ok (Some next)) e within)
        where
          go : Ahead v at (Ok (Some next)) → (at < next.place) × (next.place ≤ length v)
              × (s.count ≡ index → Seen index v next.place (record { count = s.count + 1; place = at }))
              × ((s.count ≡ index → ⊥) → Seen index v next.place (record { count = s.count + 1; place = s.place }))
          go (goes row rows c r on to) = (on, to, seen_here row next rows c r e, seen_other row next rows c r e)

-- the route at the index, read again at its place
abbrev pub told_there : Result (Option Row) Refusal → Answer rfc.Route
told_there (Ok row) = route_there (there row)
told_there (Err e) = says e

pub read_again : (v : List ℕ) (place : ℕ) (x : Answer rfc.Route) → and_then (route_from v place) route_there ≡ x
    → (a : Result (Option Row) Refusal) → told_by there a ≡ route_from v place → told_there a ≡ x
read_again v place x h (Ok row) e = sym (given_goes_on route_there (there row)) ∙ ap (λ (a : Answer RouteThere). and_then a route_there) e ∙ h
read_again v place x h (Err f) e = sym (says_then route_there f) ∙ ap (λ (a : Answer RouteThere). and_then a route_there) e ∙ h
