-- The laws of `specs/Listing.antt`, of a listing row by row, and of one call.
-- Assumes nothing.
use mathlib.Core.Path.{◌≡◌, refl, sym, ap, ◌∙◌}
use Prim.Native.Nat.{ℕ, suc, ◌+◌, ◌-◌, ◌*◌, ◌/◌, ◌≤◌, ◌<◌}
use native.Mathlib.Omega.{arith}
use native.Mathlib.Nat.{div-eq_of_lt, div-eq-sub-div, mul-le-mul_left, mul-div-le, mul-suc, mul-zero}
use native.Mathlib.Numerals.{add-one}
use mathlib.Core.List.{List, [], ◌++◌}
use lib.ListN.{length, take, drop, length-append, length-drop}
use lib.Seq.{length-take-le}
use Rattle.std.specs.Prelude.{Some, Err}
use Rattle.facts.specs.Over.{over}
use Rattle.facts.proofs.Over.{over_nil, over_part, over_over, length_over}
use Rattle.rfc.specs.Numbers.{Answer, given, refused, most_bytes}
use Rattle.rfc.specs.Walk as walk
use Rattle.rfc.specs.Walk.{Found, stop, option, walk, look}
use Rattle.rfc.proofs.Walk.{look_walks, look_walked, checks_2, checks_4, checks_pass}
use Rattle.rfc.proofs.Places.{Stands, look_stands}
use Rattle.refusal.specs.declared.Refusal.{Refusal}
use Rattle.refusal.specs.declared.Refusal.TheVariants.{TooLong, PastEnd}
use Rattle.refusal.specs.Told.{says}
use Rattle.refusal.proofs.Told.{says_given}
use Rattle.borrowed.specs.Walked.{stop_of, sizes, sized}
use Rattle.borrowed.specs.declared.answer.Stop.{Stop}
use Rattle.borrowed.specs.declared.answer.Found as here
use Rattle.borrowed.specs.declared.answer.Step.TheVariants as step
use Rattle.borrowed.proofs.Answers.{stopped_is, found_is}
use Rattle.sindovaleph_rows.specs.Listing.{Listing, Last, full, at_stop, Columns, width, row_of, row_found, bytes_before, in_front, list_in, list, last_number}
use Rattle.sindovaleph_rows.specs.Listing.{listed_of, listed_here, stop_in, rows_after, Lists, Inside, fills_from}
use Rattle.sindovaleph_rows.specs.declared.listing.Listed.{Listed}
use Rattle.sindovaleph_rows.proofs.Rows.{four, length_row, inside, row_alike}

-- with room for a row, what is found ends the listing, or stands in front of the rest
module _ (c : Columns) (k : ℕ) (area : List ℕ) (at : ℕ) where
  pub list_stop : {s : walk.Stop} {to : ℕ} → walk at (drop at area) ≡ stop s to
      → list_in (suc k) c area at ≡ record { rows = []; last = at_stop s; place = to }
  unfolding list_in in_front
  list_stop e = ap (λ (f : Found). in_front c f (list_in k c area)) e

  pub list_option : {code : ℕ} {v : List ℕ} {n to : ℕ} → walk at (drop at area) ≡ option code v n to
      → list_in (suc k) c area at
      ≡ record {
        rows = row_of c code v n to ++ (list_in k c area to).rows;
        last = (list_in k c area to).last;
        place = (list_in k c area to).place;
      }
  unfolding list_in in_front
  list_option e = ap (λ (f : Found). in_front c f (list_in k c area)) e

  list_full : list_in 0 c area at ≡ record { rows = []; last = full; place = at }
  unfolding list_in
  list_full = refl

-- an option that a call found, by its numbers
module _ (area : List ℕ) (at : ℕ) (f : here.Found) (looked : given (step.Found f) ≡ sizes (look area at)) where
  hit : (v : List ℕ) × (look area at ≡ given (option f.code v f.parts f.place)) × (length v ≡ f.len)
  hit = found_is f (look area at) looked

  stands : Stands area f.code hit.0 f.parts f.place
  stands = look_stands area f.code hit.0 f.parts f.place at hit.1

  -- its value is not longer than its place, which is in the area, and its row is that of the bytes before its place
  pub found_inside : Inside area f.len f.place
  found_inside =
      let i = inside area f.code hit.0 f.parts f.place stands in
      record { long = omega (arith, i.long, hit.2); within = i.within }

  found_row : (c : Columns) → row_found c area f ≡ row_of c f.code hit.0 f.parts f.place
  found_row c =
      ap (λ (j : ℕ). row_of c f.code (bytes_before area j f.place) f.parts f.place) (sym hit.2)
      ∙ row_alike area f.code hit.0 f.parts f.place stands c

-- a row has its place among the lent numbers
pub row_fits : (n i : ℕ) (rows : List ℕ) → i < length rows / n → n * i + n ≤ length rows
row_fits n i rows h =
    let next : i + 1 ≤ length rows / n = omega arith in
    omega (arith, mul-le-mul_left n next, mul-div-le (length rows) n, mul-suc n i, ap (λ (k : ℕ). n * k) (add-one i))

-- how many rows there are may be said by any number that is the quotient
pub rows_below : {m i q : ℕ} → i < m → m ≡ q → i < q
rows_below h e = omega (arith, h, e)

pub row_part : (n i : ℕ) (rows : List ℕ) → n * i + n ≤ length rows → length (take (n * i + n - n * i) (drop (n * i) rows)) ≡ n
row_part n i rows h =
    omega (arith, length-take-le (n * i + n - n * i) (drop (n * i) rows) (omega (arith, length-drop (n * i) rows)))

-- i rows are filled, and from there the listing goes on to the same end
pub record Going (c : Columns) (n : ℕ) (area : List ℕ) (place : ℕ) (rows₀ rows : List ℕ) (at i : ℕ) : Type 0 where
  pub wide : width c ≡ n
  pub keeps : length rows ≡ length rows₀
  pub within : at ≤ length area
  pub same : fills_from c rows i (list_in (length rows₀ / n - i) c area at) ≡ fills_from c rows₀ 0 (list_in (length rows₀ / n) c area place)

pub going_none : {c : Columns} {n : ℕ} {area : List ℕ} {place : ℕ} {rows : List ℕ} → width c ≡ n → place ≤ length area
    → Going c n area place rows rows place 0
going_none {c} {n} {area} {place} {rows} wide h =
    let z : length rows / n - 0 ≡ length rows / n = omega arith in
    record { wide = wide; keeps = refl; within = h; same = ap (λ (m : ℕ). fills_from c rows 0 (list_in m c area place)) z }

module _ {c : Columns} {n : ℕ} {area : List ℕ} {place : ℕ} {rows₀ rows : List ℕ} {at i : ℕ}
    (g : Going c n area place rows₀ rows at i) where
  abbrev all : ℕ
  all = length rows₀ / n

  abbrev end : List ℕ × Listed
  end = fills_from c rows₀ 0 (list_in all c area place)

  -- nothing more is listed
  ended : (last : Last) (to : ℕ) → list_in (all - i) c area at ≡ record { rows = []; last = last; place = to }
      → ◌≡◌ {A = List ℕ × Listed} (rows, record { refused = 0; stop = last_number last; rows = i; place = to }) end
  unfolding fills_from
  ended last to e =
      let none : 0 / width c ≡ 0 = div-eq_of_lt (omega (arith, four c)) in
      let z : i ≡ i + 0 / width c = omega (arith, none) in
      (λ j. (sym (over_nil rows (width c * i)) j, record { refused = 0; stop = last_number last; rows = z j; place = to }))
      ∙ sym (ap (fills_from c rows i) e)
      ∙ g.same

  pub going_full : {m : ℕ} → m ≡ all → i ≤ m → m ≤ i
      → ◌≡◌ {A = List ℕ × Listed} (rows, record { refused = 0; stop = 0; rows = m; place = at }) end
  going_full {m} e f h =
      let none : all - i ≡ 0 = omega (arith, e) in
      let is : m ≡ i = omega arith in
      (λ j. (rows, record { refused = 0; stop = 0; rows = is j; place = at }))
      ∙ ended full at (ap (λ (k : ℕ). list_in k c area at) none ∙ list_full c 0 area at)

  module _ (more : i < all) where
    one : all - i ≡ suc (all - (i + 1))
    one = omega arith

    pub going_stop : {s : Stop} {to : ℕ} → given (step.Stopped s to) ≡ sizes (look area at)
        → ◌≡◌ {A = List ℕ × Listed} (rows, record { refused = 0; stop = stop_in (Some s); rows = i; place = to }) end
    going_stop {s} {to} e =
        ended (at_stop (stop_of s)) to
        (ap (λ (m : ℕ). list_in m c area at) one
        ∙ list_stop c (all - (i + 1)) area at (look_walked area at _ (stopped_is s to (look area at) e)))

    -- an option's row goes in front of the rest
    pub going_more : {f : here.Found} → given (step.Found f) ≡ sizes (look area at) → {part : List ℕ} → part ≡ row_found c area f
        → Going c n area place rows₀ (take (n * i) rows ++ (part ++ drop (n * i + n - n * i) (drop (n * i) rows))) f.place (i + 1)
    unfolding fills_from
    going_more {f} e {part} put =
        let o = hit area at f e in
        let row : List ℕ = row_of c f.code o.0 f.parts f.place in
        let rest : Listing = list_in (all - (i + 1)) c area f.place in
        let is : part ≡ row = put ∙ found_row area at f e c in
        let l : length row ≡ width c = length_row c f.code o.0 f.parts f.place in
        let fits : n * i + n ≤ length rows₀ = row_fits n i rows₀ more in
        let rows' : List ℕ = take (n * i) rows ++ (part ++ drop (n * i + n - n * i) (drop (n * i) rows)) in
        let there : width c * i ≡ n * i = ap (λ (w : ℕ). w * i) g.wide in
        let has : rows' ≡ over rows (width c * i) row =
        over_part rows (n * i) (n * i + n - n * i) part (omega (arith, ap length is, l, g.wide)) ∙ (λ j. over rows (sym there j) (is j)) in
        let next : width c * (i + 1) ≡ width c * i + length row =
        omega (arith, l, mul-suc (width c) i, ap (λ (k : ℕ). width c * k) (add-one i)) in
        let room : width c * i + length row ≤ length rows = omega (arith, there, l, g.wide, g.keeps) in
        let more_rows : i + 1 + length rest.rows / width c ≡ i + length (row ++ rest.rows) / width c =
        let w : length (row ++ rest.rows) - width c ≡ length rest.rows = omega (arith, length-append row rest.rows, l) in
        omega (
          arith,
          div-eq-sub-div {m = width c} {n = length (row ++ rest.rows)} (omega (arith, four c)) (omega (arith, length-append row rest.rows, l)),
          ap (λ (k : ℕ). k / width c) w,
        ) in
        record {
          wide = g.wide;
          keeps = ap length has ∙ length_over rows (width c * i) row room ∙ g.keeps;
          within = (found_inside area at f e).within;
          same =
              (λ j. (
                (ap (λ (k : ℕ). over rows' k rest.rows) next
                    ∙ ap (λ (d : List ℕ). over d (width c * i + length row) rest.rows) has
                    ∙ over_over rows (width c * i) row rest.rows room) j,
                record { refused = 0; stop = last_number rest.last; rows = more_rows j; place = rest.place },
              ))
              ∙ sym (ap (fills_from c rows i)
              (ap (λ (m : ℕ). list_in m c area at) one ∙ list_option c (all - (i + 1)) area at (look_walked area at _ o.1)))
              ∙ g.same;
        }

-- at a place of an area that is not too long nothing is refused
pub never : {A : Type 0} (area : List ℕ) (at : ℕ) (e : Refusal) → says e ≡ sizes (look area at) → length area ≤ most_bytes
    → at ≤ length area → A
never area at e is h g =
    absurd (says_given (sized (walk at (drop at area))) e (is ∙ ap sizes (look_walks area at h g)))

-- a call that is not refused
pub list_given : (c : Columns) (area : List ℕ) (place room : ℕ) → length area ≤ most_bytes → place ≤ length area
    → list c area place room ≡ given (list_in (room / width c) c area place)
unfolding list
list_given c area place room h g = checks_pass area place _ h g

-- one call
module _ (c : Columns) (area : List ℕ) (place : ℕ) (rows : List ℕ) where
  refusing : (number : ℕ) → list c area place (length rows) ≡ refused number
      → Lists c area place rows rows (record { refused = number; stop = 0; rows = 0; place = place })
  refusing number is =
      record { told = sym (ap (listed_of c place) is); kept = sym (ap (λ (a : Answer Listing). rows_after a rows) is) }

  pub lists_2 : most_bytes < length area → Lists c area place rows rows (listed_here place (Err TooLong))
  unfolding list
  lists_2 h = refusing 2 (checks_2 area place _ h)

  module _ (h : length area ≤ most_bytes) where
    pub lists_4 : length area < place → Lists c area place rows rows (listed_here place (Err PastEnd))
    unfolding list
    lists_4 g = refusing 4 (checks_4 area place _ h g)

    module _ (g : place ≤ length area) where
      pub lists_given : {n : ℕ} {rows' : List ℕ} {r : Listed} → width c ≡ n
          → (rows', r) ≡ fills_from c rows 0 (list_in (length rows / n) c area place)
          → Lists c area place rows rows' r
      unfolding fills_from
      lists_given {rows' = rows'} {r = r} wide e =
          let l : Listing = list_in (length rows / width c) c area place in
          let z : 0 + length l.rows / width c ≡ length l.rows / width c = omega arith in
          let all = e ∙ ap (λ (m : ℕ). fills_from c rows 0 (list_in (length rows / m) c area place)) (sym wide) in
          record {
            told =
                ap (λ (x : List ℕ × Listed). x.1) all
                ∙ (λ i. record { refused = 0; stop = last_number l.last; rows = z i; place = l.place })
                ∙ sym (ap (listed_of c place) (list_given c area place (length rows) h g));
            kept =
                ap (λ (x : List ℕ × Listed). x.0) all
                ∙ ap (λ (k : ℕ). over rows k l.rows) (mul-zero (width c))
                ∙ sym (ap (λ (a : Answer Listing). rows_after a rows) (list_given c area place (length rows) h g));
          }
