-- The rows of a table: what is made of them, and what the write of it answers by them.
-- Assumes nothing.
use mathlib.Core.Path.{◌≡◌, refl, sym, ap, ◌∙◌, subst}
use Prim.Native.Nat.{ℕ, ◌+◌, ◌≤◌, ◌<◌}
use mathlib.Core.Bool.{true, false}
use mathlib.Core.List.{List, [], ◌∷◌, ◌++◌, map, foldl, foldl-append}
use native.Mathlib.Omega.{arith}
use lib.Dec.{ltb, lit<}
use lib.ListN.{length}
use borrow.Author.Tests.{ltb-true, ltb-false, lt-ltb, le-ltb}
use Rattle.std.specs.Prelude.{Result, Ok, Err}
use Rattle.rfc.specs.Numbers.{given, refused, most_bytes, most_part, Check, check}
use Rattle.rfc.specs.Writing.{Write, encode}
use Rattle.facts.specs.Over.{over}
use Rattle.rfc.specs.Routes as rfc
use Rattle.rfc.specs.Strung.{RowMade, all_checks, all_bytes}
use Rattle.rfc.proofs.Numbers.{Refuses, here, later, refuses, Clear, done, next, clears, given_no, first_is, none_first}
use Rattle.rfc.proofs.Routes.{routes_none, routes_more, wide_none, wide_first, wide_later}
use Rattle.rfc.proofs.Routes.{routes_2, routes_4, routes_12, routes_7, routes_8, routes_given, routes_left}
use Rattle.rfc.proofs.Strung.{checks_none, checks_more, bytes_none, bytes_more, Decides}
use Rattle.refusal.specs.declared.Refusal.{Refusal}
use Rattle.refusal.specs.declared.Refusal.TheVariants.{WidthAbove32}
use Rattle.refusal.specs.Told.{named, refusal_of}
use Rattle.laying.specs.Passes.{State, begun, row_of, put, laid}
use Rattle.laying.specs.declared.Pass.{Pass}
use Rattle.laying.proofs.Passes.{row_bad, row_good}
use Rattle.laying.proofs.Together.{Done, both_passes}
use Rattle.classless.specs.Rows.{route_of}
use Rattle.classless.specs.declared.Route.{Route}
use Rattle.routes.specs.Rows.{rows_of, made_of, made_known}

rows_none : rows_of [] ≡ []
unfolding rows_of
rows_none = refl

rows_more : (r : Route) (rs : List Route) → rows_of (r ∷ rs) ≡ route_of r ∷ rows_of rs
unfolding rows_of
rows_more r rs = refl

-- their bytes are the table's value
value_is : (rs : List Route) → all_bytes (map made_of rs) ≡ rfc.routes_bytes (rows_of rs)
unfolding made_of
value_is [] = bytes_none ∙ sym (ap rfc.routes_bytes rows_none ∙ routes_none)
value_is (r ∷ rs) =
    bytes_more (made_of r) (map made_of rs)
    ∙ ap (λ (l : List ℕ). rfc.route_bytes (route_of r) ++ l) (value_is rs)
    ∙ sym (ap rfc.routes_bytes (rows_more r rs) ∙ routes_more (route_of r) (rows_of rs))

-- one row more
more_checks : (x : Route) (ms : List RowMade) → all_checks (made_of x ∷ ms) ≡ check (ltb rfc.most_width x.width) 12 ∷ all_checks ms
unfolding made_of
more_checks x ms = checks_more (made_of x) ms

-- a row is refused where one is too wide, and by nothing else
none_refuses : (k : ℕ) → Refuses [] k → ⊥
none_refuses k r = given_no k k (sym (clears (given k) done) ∙ refuses (given k) r)

abbrev Wide : List Route → ℕ → Type 0
Wide rs k = (k ≡ 12) × (rfc.too_wide (rows_of rs) ≡ true)

wide_more : (x : Route) (rs : List Route) → ((k : ℕ) → Refuses (all_checks (map made_of rs)) k → Wide rs k)
    → (k : ℕ) → Refuses (check (ltb rfc.most_width x.width) 12 ∷ all_checks (map made_of rs)) k → Wide (x ∷ rs) k
wide_more x rs told k (here e) =
    (refl, ap rfc.too_wide (rows_more x rs) ∙ wide_first (route_of x) (rows_of rs) (ltb-true rfc.most_width x.width e))
wide_more x rs told k (later e r) =
    let t = told k r in
    (t.0, ap rfc.too_wide (rows_more x rs) ∙ wide_later (route_of x) (rows_of rs) (ltb-false rfc.most_width x.width e) ∙ t.1)

wide_is : (rs : List Route) (k : ℕ) → Refuses (all_checks (map made_of rs)) k → Wide rs k
wide_is [] k r = absurd (none_refuses k (subst (λ (l : List Check). Refuses l k) checks_none r))
wide_is (x ∷ rs) k r =
    wide_more x rs (λ j q. wide_is rs j q) k (subst (λ (l : List Check). Refuses l k) (more_checks x (map made_of rs)) r)

narrow_more : (x : Route) (rs : List Route) → (Clear (all_checks (map made_of rs)) → rfc.too_wide (rows_of rs) ≡ false)
    → Clear (check (ltb rfc.most_width x.width) 12 ∷ all_checks (map made_of rs)) → rfc.too_wide (rows_of (x ∷ rs)) ≡ false
narrow_more x rs told (next e c) =
    ap rfc.too_wide (rows_more x rs) ∙ wide_later (route_of x) (rows_of rs) (ltb-false rfc.most_width x.width e) ∙ told c

narrow_is : (rs : List Route) → Clear (all_checks (map made_of rs)) → rfc.too_wide (rows_of rs) ≡ false
narrow_is [] c = ap rfc.too_wide rows_none ∙ wide_none
narrow_is (x ∷ rs) c = narrow_more x rs (λ d. narrow_is rs d) (subst Clear (more_checks x (map made_of rs)) c)

-- one row is measured
module _ (x : Route) where
  pub wide_row : rfc.most_width < x.width → row_of (made_of x) ≡ Err WidthAbove32
  unfolding made_of refusal_of named
  wide_row h = row_bad (made_of x) 12 (first_is (here (lt-ltb rfc.most_width x.width h))) (lit< tt)

  pub narrow_row : (n : ℕ) → x.width ≤ rfc.most_width → n ≡ length (rfc.route_bytes (route_of x)) → row_of (made_of x) ≡ Ok n
  unfolding made_of
  narrow_row n h l = let clear : Clear (check (ltb rfc.most_width x.width) 12 ∷ []) = next (le-ltb rfc.most_width x.width h) done in
      row_good (made_of x) n (omega (arith, none_first clear)) l

-- and put
abbrev pub one_put : State → Route → State
one_put d x = foldl put d (rfc.route_bytes (route_of x))

pub all_put : (rs : List Route) (d : State) → foldl one_put d rs ≡ foldl put d (all_bytes (map made_of rs))
unfolding made_of
all_put [] d = ap (foldl put d) (sym bytes_none)
all_put (x ∷ rs) d =
    all_put rs (one_put d x)
    ∙ sym (foldl-append put d (rfc.route_bytes (route_of x)) (all_bytes (map made_of rs)))
    ∙ ap (foldl put d) (sym (bytes_more (made_of x) (map made_of rs)))

-- so the write of a table is decided by its rows
module _ (rs : List Route) (room : List ℕ) (place : ℕ) where
  abbrev w : Write
  w = rfc.write_routes (rows_of rs) room place

  decides : length room ≤ most_bytes → place ≤ length room → Decides w most_part rfc.routes_code (map made_of rs) room place
  decides short within =
      record {
        by_row = λ k r. routes_12 (rows_of rs) room place short within (wide_is rs k r).1 ∙ ap refused (sym (wide_is rs k r).0);
        by_7 = λ c h. routes_7 (rows_of rs) room place short within (narrow_is rs c) (rw (value_is rs) at h);
        by_8 = λ c h g. routes_8 (rows_of rs) room place short within (narrow_is rs c) (rw (value_is rs) at h) (rw (value_is rs) at g);
        to = λ c h g. routes_given (rows_of rs) room place short within (narrow_is rs c) (rw (value_is rs) at h) (rw (value_is rs) at g)
            ∙ ap (λ (v : List ℕ). given (place + length (encode most_part rfc.routes_code v))) (sym (value_is rs));
        left = λ c h g. routes_left (rows_of rs) room place short within (narrow_is rs c) (rw (value_is rs) at h) (rw (value_is rs) at g)
            ∙ ap (λ (v : List ℕ). over room place (encode most_part rfc.routes_code v)) (sym (value_is rs));
      }

  -- both passes over it
  pub wrote : (p : Pass) (d : Result ℕ Refusal × List ℕ) → p ≡ begun (length room) place rfc.routes_code most_part
      → d ≡ laid p (map made_of rs) room → Done w most_part rfc.routes_code (map made_of rs) room place d
  wrote p d e f =
      rw f
      (both_passes w most_part rfc.routes_code (map made_of rs) room place p e
      (routes_2 (rows_of rs) room place) (routes_4 (rows_of rs) room place) (lit< tt) (made_known rs) decides)
