-- What an answer of the reader tells: back to the answer; and the row at a place, for one who goes on row by row.
-- Assumes nothing.
use mathlib.Core.Path.{◌≡◌, refl, sym, ap, ◌∙◌, subst}
use Prim.Native.Nat.{ℕ, ◌+◌, ◌-◌, ◌≤◌, ◌<◌, min}
use mathlib.Core.List.{List, [], ◌∷◌}
use native.Mathlib.Omega.{arith}
use native.Mathlib.Decide.{dec_le}
use lib.ListN.{length, drop, get_or, drop_of_length-le}
use Rattle.std.specs.Prelude.{Option, Some, None, Result, Ok, Err}
use Rattle.rfc.specs.Numbers.{Answer, refused, most_bytes}
use Rattle.rfc.specs.Routes as rfc
use Rattle.rfc.specs.Routes.{most_width, significant}
use Rattle.rfc.specs.Classless.{row_checks, route_in, behind_width, RouteRow, route_rows, RouteThere, no_route, route, route_from}
use Rattle.rfc.proofs.Numbers.{Refuses, Clear, given_no}
use Rattle.rfc.proofs.Classless.{route_row_of, row_12, rows_none, from_2, from_end, from_rows, from_refused, from_route, cut_10, whole_clear, whole_to, whole_rows}
use Rattle.refusal.specs.declared.Refusal.{Refusal}
use Rattle.refusal.specs.declared.Refusal.TheVariants.{WidthAbove32, WrongLength}
use Rattle.refusal.specs.Told.{says, told}
use Rattle.refusal.proofs.Told.{told_one, says_as}
use Rattle.classless.specs.Rows.{told_by, route_of, there}
use Rattle.classless.specs.declared.Route.{Route}
use Rattle.classless.specs.declared.Row.{Row}

-- two answers that tell the same are the same, where what was given can be told from the other words
module _ {A B : Type 0} (f : A → B) (g : B → A) (back : (x : A) → g (f x) ≡ x) where
  in_words : Result A Refusal → Result B Refusal
  in_words (Ok x) = Ok (f x)
  in_words (Err e) = Err e

  out_of : Result B Refusal → Result A Refusal
  out_of (Ok y) = Ok (g y)
  out_of (Err e) = Err e

  told_in : (r : Result A Refusal) → told_by f r ≡ told (in_words r)
  unfolding in_words
  told_in (Ok x) = refl
  told_in (Err e) = refl

  out_in : (r : Result A Refusal) → out_of (in_words r) ≡ r
  unfolding in_words out_of
  out_in (Ok x) = ap Ok (back x)
  out_in (Err e) = refl

  pub told_by_one : (r q : Result A Refusal) → told_by f r ≡ told_by f q → r ≡ q
  told_by_one r q e =
      sym (out_in r) ∙ ap out_of (told_one (in_words r) (in_words q) (sym (told_in r) ∙ e ∙ told_in q)) ∙ out_in q

-- a refusal says the same number in answer to any question
pub says_same : {A B : Type 0} (e : Refusal) (n : ℕ) → says {A = A} e ≡ refused n → says {A = B} e ≡ refused n
says_same {A} {B} e n =
    says_as (λ (a : Answer A) (b : Answer B) k len. a ≡ refused n → b ≡ refused n) (λ k e. let same : k ≡ n = cc in ap refused same)
    (λ len e. cc) e

-- a route, and what begins at a place
abbrev pub route_back : rfc.Route → Route
route_back r = record { width = r.width; destination = r.destination; gateway = r.gateway }

abbrev pub there_back : RouteThere → Option Row
there_back no_route = None
there_back (route r to) = Some (record { route = route_back r; place = to })

there_again : (x : Option Row) → there_back (there x) ≡ x
there_again None = refl
there_again (Some row) = refl

pub route_one : (r q : Result Route Refusal) → told_by route_of r ≡ told_by route_of q → r ≡ q
route_one = told_by_one route_of route_back (λ r. refl)

pub row_one : (r q : Result (Option Row) Refusal) → told_by there r ≡ told_by there q → r ≡ q
row_one = told_by_one there there_back there_again

-- where something is given, the value is not too long
pub short_given : (v : List ℕ) (place : ℕ) (x : Option Row) → told_by there (Ok x) ≡ route_from v place → length v ≤ most_bytes
short_given v place x e = go (dec_le (length v) most_bytes)
  where
    go : Dec (length v ≤ most_bytes) → length v ≤ most_bytes
    go (yes h) = h
    go (no h) = absurd (given_no (there x) 2 (e ∙ from_2 v place (omega arith)))

-- the row at a place, by what is answered there: the rows from there on, and where the next one begins
pub data Ahead (v : List ℕ) (place : ℕ) : Result (Option Row) Refusal → Type 0 where
  ends : route_rows (drop place v) ≡ [] → Ahead v place (Ok None)
  stops : {e : Refusal} (row : RouteRow) (more : List RouteRow) → route_rows (drop place v) ≡ row ∷ more
      → (k : ℕ) → Refuses row.checks k → says {A = ℕ} e ≡ refused k → Ahead v place (Err e)
  goes : {next : Row} (row : RouteRow) → route_rows (drop place v) ≡ row ∷ route_rows (drop next.place v)
      → Clear row.checks → row.route ≡ route_of next.route → place < next.place → next.place ≤ length v → Ahead v place (Ok (Some next))

module _ (v : List ℕ) (place : ℕ) (short : length v ≤ most_bytes) where
  abbrev width : ℕ
  width = get_or v place 0

  abbrev rest : List ℕ
  rest = drop (place + 1) v

  -- by an answer that the definition gives
  by_answer : (a b : Result (Option Row) Refusal) → told_by there a ≡ route_from v place → route_from v place ≡ told_by there b
      → Ahead v place b → Ahead v place a
  by_answer a b e f h = subst (Ahead v place) (sym (row_one a b (e ∙ f))) h

  module _ (a : Result (Option Row) Refusal) (e : told_by there a ≡ route_from v place) where
    at_end : place ≡ length v → Ahead v place a
    at_end h =
        by_answer a (Ok None) e (from_end v place short h)
        (ends (ap route_rows (drop_of_length-le v {i = place} (omega arith)) ∙ rows_none))

    module _ (within : place < length v) where
      at_refused : (k : ℕ) (f : Refusal) → says {A = RouteThere} f ≡ refused k → says {A = ℕ} f ≡ refused k → Refuses (row_checks width rest) k
          → Ahead v place a
      at_refused k f s t r =
          by_answer a (Err f) e (from_refused v place short within k r ∙ sym s)
          (stops (route_row_of width rest) (route_rows (drop (behind_width width) rest)) (from_rows v place short within) k r t)

      at_route : (n : ℕ) → width ≤ most_width → n ≡ min 4 (significant width) → n + 4 ≤ length v - (place + 1) → Ahead v place a
      at_route n least is h =
          let clear = whole_clear v place short within n least is h in
          let to = whole_to v place short within n least is h in
          let next : Row = record { route = route_back (route_in width rest); place = place + (1 + behind_width width) } in
          by_answer a (Ok (Some next)) e (from_route v place short within clear)
          (goes (route_row_of width rest)
          (from_rows v place short within
          ∙ ap (λ (rs : List RouteRow). route_row_of width rest ∷ rs)
          (whole_rows v place short within n least is h ∙ ap (λ (k : ℕ). route_rows (drop k v)) (sym to)))
          clear refl (omega arith) (omega (arith, to)))

      at_row : Ahead v place a
      at_row = go (dec_le width most_width) (dec_le (min 4 (significant width) + 4) (length v - (place + 1)))
        where
          go : Dec (width ≤ most_width) → Dec (min 4 (significant width) + 4 ≤ length v - (place + 1)) → Ahead v place a
          go (yes least) (yes h) = at_route (min 4 (significant width)) least refl h
          go (yes least) (no h) =
              at_refused 10 WrongLength refl refl (cut_10 v place short within (min 4 (significant width)) least refl (omega arith))
          go (no wide) h = at_refused 12 WidthAbove32 refl refl (row_12 width rest (omega arith))

    pub ahead : place ≤ length v → Ahead v place a
    ahead h = go (dec_le (length v) place)
      where
        go : Dec (length v ≤ place) → Ahead v place a
        go (yes g) = at_end (omega arith)
        go (no g) = at_row (omega arith)
