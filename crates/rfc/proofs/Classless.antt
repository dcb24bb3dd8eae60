-- The laws of `specs/Classless.antt`: the rows of a value, one by one; the reader check by check; what masking leaves; and that what the
-- writer of routes writes is read back, masked.
-- Assumes nothing.
use mathlib.Core.Path.{◌≡◌, refl, sym, ap, ◌∙◌}
use Prim.Native.Nat.{ℕ, suc, zero, ◌+◌, ◌-◌, ◌*◌, ◌/◌, ◌%◌, ◌^◌, ◌≤◌, ◌<◌, min, suc-le-suc}
use mathlib.Core.List.{List, [], ◌∷◌, ◌++◌, map, append_assoc}
use native.Mathlib.Omega.{arith}
use native.Mathlib.Nat.{not-suc-le-zero, le_refl, div-div-eq-div-mul, pow-succ', mul-one, zero-mul, mul-div_cancel, div-eq_of_lt, mod-eq_of_lt, div-mul-le_self, le_trans}
use lib.Arith.{digits_div}
use lib.Pow.{pow-add}
use lib.ListN.{length, take, drop, get_or, drop_of_length-le, length-append, length-drop, take-append-drop}
use lib.Seq.{take-append_seam, drop-append_seam, length-take-le, take-take, drop-drop}
use borrow.Author.Tests.{lt-ltb, le-ltb, ltb-false}
use Rattle.facts.specs.BigEndian.{number, number_at, digits}
use Rattle.facts.specs.Each.{Each}
use Rattle.facts.proofs.BigEndian.{number_digits, number_below, number_split, number_there, some}
use Rattle.rfc.specs.Numbers.{given, refused, most_bytes}
use Rattle.rfc.specs.Lists.{Bytes}
use Rattle.rfc.specs.Routes.{Route, most_width, significant, route_bytes, routes_bytes}
use Rattle.rfc.specs.Classless.{masked, as_read, Fitting, route_in, behind_width, row_checks, RouteRow, route_rows_in, route_rows, all_row_checks, all_routes, read_routes, nth, route_at, no_route, route, route_ahead, route_from}
use Rattle.rfc.proofs.Numbers.{Refuses, here, later, Clear, Numbered, given_goes_on, refused_stands, done, next, refuses, clears, clear_both, long, not_long, past, not_past}
use Rattle.rfc.proofs.Bytes.{byte_below, bytes_take, bytes_drop, bytes_digits}
use Rattle.rfc.proofs.Places.{drop_one}
use Rattle.rfc.proofs.Routes.{significant_least, significant_covers, routes_none, routes_more}

abbrev pub route_row_of : ℕ → List ℕ → RouteRow
route_row_of width rest = record { checks = row_checks width rest; route = route_in width rest }

-- more rows to look at change nothing, where there are enough
enough : (k m : ℕ) (v : List ℕ) → length v ≤ k → length v ≤ m → route_rows_in k v ≡ route_rows_in m v
unfolding route_rows_in
enough zero zero v h g = refl
enough zero (suc m) [] h g = refl
enough zero (suc m) (x ∷ v) h g = absurd (not-suc-le-zero h)
enough (suc k) zero [] h g = refl
enough (suc k) zero (x ∷ v) h g = absurd (not-suc-le-zero g)
enough (suc k) (suc m) [] h g = refl
enough (suc k) (suc m) (x ∷ v) h g =
    let d = length-drop (behind_width x) v in
    ap (λ (rs : List RouteRow). route_row_of x v ∷ rs) (enough k m (drop (behind_width x) v) (omega arith) (omega arith))

pub rows_none : route_rows [] ≡ []
unfolding route_rows route_rows_in
rows_none = refl

pub rows_more : (width : ℕ) (rest : List ℕ) → route_rows (width ∷ rest) ≡ route_row_of width rest ∷ route_rows (drop (behind_width width) rest)
unfolding route_rows route_rows_in
rows_more width rest =
    let behind : List ℕ = drop (behind_width width) rest in
    ap (λ (rs : List RouteRow). route_row_of width rest ∷ rs)
    (enough (length rest) (length behind) behind (omega (arith, length-drop (behind_width width) rest)) (le_refl _))

-- a row is clear exactly where it is no wider than 32 and not cut
pub row_12 : (width : ℕ) (rest : List ℕ) → most_width < width → Refuses (row_checks width rest) 12
unfolding row_checks
row_12 width rest h = here (lt-ltb most_width width h)

pub row_10 : (width : ℕ) (rest : List ℕ) → width ≤ most_width → length rest < behind_width width → Refuses (row_checks width rest) 10
unfolding row_checks
row_10 width rest h g = later (le-ltb most_width width h) (here (lt-ltb (length rest) (behind_width width) g))

pub row_clear : (width : ℕ) (rest : List ℕ) → width ≤ most_width → behind_width width ≤ length rest → Clear (row_checks width rest)
unfolding row_checks
row_clear width rest h g = next (le-ltb most_width width h) (next (le-ltb (length rest) (behind_width width) g) done)

pub clear_row : (width : ℕ) (rest : List ℕ) → Clear (row_checks width rest) → (width ≤ most_width) × (behind_width width ≤ length rest)
unfolding row_checks
clear_row width rest (next h (next g c)) = (ltb-false most_width width h, ltb-false (length rest) (behind_width width) g)

pub row_none_checks : all_row_checks [] ≡ []
unfolding all_row_checks
row_none_checks = refl

pub row_none_routes : all_routes [] ≡ []
unfolding all_routes
row_none_routes = refl

pub row-checks : (r : RouteRow) (rs : List RouteRow) → all_row_checks (r ∷ rs) ≡ r.checks ++ all_row_checks rs
unfolding all_row_checks
row-checks r rs = refl

pub row_routes : (r : RouteRow) (rs : List RouteRow) → all_routes (r ∷ rs) ≡ r.route ∷ all_routes rs
unfolding all_routes
row_routes r rs = refl

-- the checks of every row have numbers
pub rows_numbered : (v : List ℕ) → Each (λ (r : RouteRow). Numbered r.checks) (route_rows v)
unfolding route_rows route_rows_in row_checks
rows_numbered v = go (length v) v
  where
    go : (k : ℕ) (v : List ℕ) → Each (λ (r : RouteRow). Numbered r.checks) (route_rows_in k v)
    go zero v = tt
    go (suc k) [] = tt
    go (suc k) (width ∷ rest) = (tt, go k (drop (behind_width width) rest))

-- all routes of a value, by its checks
module _ (v : List ℕ) where
  pub read_2 : most_bytes < length v → read_routes v ≡ refused 2
  unfolding read_routes
  read_2 a = refuses _ (here (long v a))

  pub read_refused : length v ≤ most_bytes → (k : ℕ) → Refuses (all_row_checks (route_rows v)) k → read_routes v ≡ refused k
  unfolding read_routes
  read_refused a k r = refuses _ (later (not_long v a) r)

  pub read_given : length v ≤ most_bytes → Clear (all_row_checks (route_rows v)) → read_routes v ≡ given (all_routes (route_rows v))
  unfolding read_routes
  read_given a c = clears _ (next (not_long v a) c)

-- the route at an index
pub nth_4 : (index : ℕ) (rs : List Route) → length rs ≤ index → nth index rs ≡ refused 4
unfolding nth
nth_4 index [] h = refl
nth_4 zero (r ∷ rs) h = absurd (not-suc-le-zero h)
nth_4 (suc index) (r ∷ rs) h = nth_4 index rs (omega arith)

pub nth_first : (r : Route) (rs : List Route) → nth zero (r ∷ rs) ≡ given r
unfolding nth
nth_first r rs = refl

pub nth_later : (index : ℕ) (r : Route) (rs : List Route) → nth (suc index) (r ∷ rs) ≡ nth index rs
unfolding nth
nth_later index r rs = refl

pub nth_is : (index : ℕ) (rs : List Route) → index < length rs → (r : Route) × (nth index rs ≡ given r)
unfolding nth
nth_is index [] h = absurd (not-suc-le-zero h)
nth_is zero (r ∷ rs) h = (r, refl)
nth_is (suc index) (r ∷ rs) h = nth_is index rs (omega arith)

pub at_refused : (index k : ℕ) (v : List ℕ) → read_routes v ≡ refused k → route_at index v ≡ refused k
unfolding route_at
at_refused index k v e = rw e (refused_stands (nth index) k)

pub at_given : (index : ℕ) (v : List ℕ) (rs : List Route) → read_routes v ≡ given rs → route_at index v ≡ nth index rs
unfolding route_at
at_given index v rs e = rw e (given_goes_on (nth index) rs)

-- no bit is left, or those at the top
pub masked_none : (address : ℕ) → address < 2 ^ 32 → masked 0 address ≡ 0
unfolding masked
masked_none address h = ap (λ (k : ℕ). k * 2 ^ 32) (div-eq_of_lt h) ∙ zero-mul (2 ^ 32)

pub masked_shift : (width address n : ℕ) → n ≡ most_width - width → address < 2 ^ 32
    → address / 2 ^ n * 2 ^ n % 2 ^ 32 ≡ masked width address
unfolding masked
masked_shift width address n e h =
    mod-eq_of_lt (le_trans (suc-le-suc (div-mul-le_self address (2 ^ n))) h) ∙ ap (λ (k : ℕ). address / 2 ^ k * 2 ^ k) e

-- 256 ^ n in bits
eights : (n : ℕ) → 2 ^ (8 * n) ≡ 256 ^ n
eights zero = refl
eights (suc n) =
    let e : 8 * suc n ≡ 8 + 8 * n = omega arith in
    ap (λ (k : ℕ). 2 ^ k) e ∙ pow-add 2 8 (8 * n) ∙ ap (λ (k : ℕ). 256 * k) (eights n) ∙ sym (pow-succ' 256 n)

-- bytes behind the significant ones are masked away
module _ (width : ℕ) (h : width ≤ most_width) where
  abbrev n : ℕ
  n = significant width

  -- what is masked away, in whole bytes and in bits of the last significant one
  bits : 2 ^ (most_width - width) ≡ 256 ^ (4 - n) * 2 ^ (8 * n - width)
  bits =
      let covers = significant_covers width in
      let least = significant_least width 4 h in
      let e : most_width - width ≡ 8 * (4 - n) + (8 * n - width) = omega arith in
      ap (λ (k : ℕ). 2 ^ k) e ∙ pow-add 2 (8 * (4 - n)) (8 * n - width) ∙ ap (λ (k : ℕ). k * 2 ^ (8 * n - width)) (eights (4 - n))

  masked_above : (a r : ℕ) → r < 256 ^ (4 - n) → masked width (a * 256 ^ (4 - n) + r) ≡ a / 2 ^ (8 * n - width) * 2 ^ (most_width - width)
  unfolding masked
  masked_above a r g =
      let m : ℕ = 256 ^ (4 - n) in
      let q : ℕ = 2 ^ (8 * n - width) in
      let e : (a * m + r) / 2 ^ (most_width - width) ≡ a / q =
      ap (λ (k : ℕ). (a * m + r) / k) bits
      ∙ sym (div-div-eq-div-mul (a * m + r) m q)
      ∙ ap (λ (k : ℕ). k / q) (digits_div a g) in
      ap (λ (k : ℕ). k * 2 ^ (most_width - width)) e

  pub masked_front : (bytes : List ℕ) → 4 ≤ length bytes → Bytes bytes
      → masked width (number (take n bytes) * 256 ^ (4 - n)) ≡ masked width (number (take 4 bytes))
  masked_front bytes long b =
      let least = significant_least width 4 h in
      let four : List ℕ = take 4 bytes in
      let behind : List ℕ = drop n four in
      let a : ℕ = number (take n bytes) in
      let size : length behind ≡ 4 - n = length-drop n four ∙ ap (λ (k : ℕ). k - n) (length-take-le 4 bytes long) in
      let low : number behind < 256 ^ (4 - n) =
      rw size at (number_below behind (byte_below behind (bytes_drop n four (bytes_take 4 bytes b)))) in
      let whole : number four ≡ a * 256 ^ (4 - n) + number behind =
      ap number (sym (take-append-drop n four)) ∙ number_split (take n four) behind
      ∙ (λ i. number (take-take n 4 bytes least i) * 256 ^ size i + number behind) in
      let none : a * 256 ^ (4 - n) ≡ a * 256 ^ (4 - n) + 0 = omega arith in
      ap (masked width) none ∙ masked_above a 0 (some (4 - n)) ∙ sym (masked_above a (number behind) low) ∙ ap (masked width) (sym whole)

  -- where all bits of the significant bytes count, nothing is masked
  pub whole_bytes : 8 * n ≡ width → (a : ℕ) → masked width (a * 256 ^ (4 - n)) ≡ a * 256 ^ (4 - n)
  unfolding masked
  whole_bytes e a =
      let none : 8 * n - width ≡ 0 = omega arith in
      let all : 2 ^ (most_width - width) ≡ 256 ^ (4 - n) =
      bits ∙ ap (λ (k : ℕ). 256 ^ (4 - n) * 2 ^ k) none ∙ mul-one (256 ^ (4 - n)) in
      ap (λ (k : ℕ). a * 256 ^ (4 - n) / k * k) all ∙ ap (λ (k : ℕ). k * 256 ^ (4 - n)) (mul-div_cancel a (some (4 - n)))

  -- a row by the four bytes behind its width and the four of its gateway
  pub route_read : (rest : List ℕ) → 4 ≤ length rest → Bytes rest
      → route_in width rest
      ≡ record { width = width; destination = masked width (number (take 4 rest)); gateway = number (take 4 (drop n rest)) }
  unfolding route_in
  route_read rest long b =
      λ i. record { width = width; destination = masked_front rest long b i; gateway = number (take 4 (drop n rest)) }

-- what stands behind the width of a route that was written, with more behind it
abbrev pub rest_of : Route → List ℕ → List ℕ
rest_of r more = (take (significant r.width) (digits 4 r.destination) ++ digits 4 r.gateway) ++ more

-- a route that was written, with anything behind it, is the first row, and is read masked
module _ (r : Route) (fit : Fitting r) (more : List ℕ) where
  abbrev k : ℕ
  k = significant r.width

  abbrev to : List ℕ
  to = take k (digits 4 r.destination)

  abbrev via : List ℕ
  via = digits 4 r.gateway

  abbrev rest : List ℕ
  rest = rest_of r more

  length_to : length to ≡ k
  length_to = length-take-le k (digits 4 r.destination) (significant_least r.width 4 fit.0)

  front : take k rest ≡ to
  front =
      ap (take k) (append_assoc to via more)
      ∙ ap (λ (m : ℕ). take m (to ++ (via ++ more))) (sym length_to)
      ∙ take-append_seam to (via ++ more)

  behind_to : drop k rest ≡ via ++ more
  behind_to =
      ap (drop k) (append_assoc to via more)
      ∙ ap (λ (m : ℕ). drop m (to ++ (via ++ more))) (sym length_to)
      ∙ drop-append_seam to (via ++ more)

  destination_back : masked r.width (number (take k rest) * 256 ^ (4 - k)) ≡ masked r.width r.destination
  destination_back =
      ap (λ (l : List ℕ). masked r.width (number l * 256 ^ (4 - k))) front
      ∙ masked_front r.width fit.0 (digits 4 r.destination) (omega arith) (bytes_digits 4 r.destination)
      ∙ ap (masked r.width) (number_digits 4 r.destination fit.1)

  gateway_back : number (take 4 (drop k rest)) ≡ r.gateway
  gateway_back = ap (λ (l : List ℕ). number (take 4 l)) behind_to ∙ number_digits 4 r.gateway fit.2

  read_back : route_in r.width rest ≡ as_read r
  unfolding route_in as_read
  read_back = λ i. record { width = r.width; destination = destination_back i; gateway = gateway_back i }

  pub back_clear : Clear (row_checks r.width rest)
  unfolding behind_width
  back_clear =
      row_clear r.width rest fit.0 (omega (arith, length_to, length-append (to ++ via) more, length-append to via))

  behind_back : drop (behind_width r.width) rest ≡ more
  unfolding behind_width
  behind_back = sym (drop-drop 4 k rest) ∙ ap (drop 4) behind_to

  pub rows_front : route_rows (route_bytes r ++ more) ≡ record { checks = row_checks r.width rest; route = as_read r } ∷ route_rows more
  unfolding route_bytes
  rows_front =
      rows_more r.width rest
      ∙ (λ i. record { checks = row_checks r.width rest; route = read_back i } ∷ route_rows (behind_back i))

-- so all routes of a table are read back
pub table_read : (rs : List Route) → Each Fitting rs
    → Clear (all_row_checks (route_rows (routes_bytes rs))) × (all_routes (route_rows (routes_bytes rs)) ≡ map as_read rs)
unfolding all_row_checks all_routes
table_read [] fit = rw (routes_none, rows_none) (done, refl)
table_read (r ∷ rs) fit =
    let behind : List ℕ = routes_bytes rs in
    let later = table_read rs fit.1 in
    rw (routes_more r rs, rows_front r fit.0 behind)
    (clear_both (back_clear r fit.0 behind) later.0, ap (λ (l : List Route). as_read r ∷ l) later.1)

pub routes_read_back : (rs : List Route) → Each Fitting rs → length (routes_bytes rs) ≤ most_bytes
    → read_routes (routes_bytes rs) ≡ given (map as_read rs)
unfolding read_routes
routes_read_back rs fit h =
    let t = table_read rs fit in
    clears _ (next (not_long (routes_bytes rs) h) t.0) ∙ ap given t.1

-- the row at a place, check by check
module _ (v : List ℕ) (place : ℕ) where
  pub from_2 : most_bytes < length v → route_from v place ≡ refused 2
  unfolding route_from
  from_2 a = refuses _ (here (long v a))

  module _ (a : length v ≤ most_bytes) where
    pub from_4 : length v < place → route_from v place ≡ refused 4
    unfolding route_from
    from_4 b = refuses _ (later (not_long v a) (here (past place v b)))

    from_ahead : place ≤ length v → (l : List ℕ) → drop place v ≡ l → route_from v place ≡ route_ahead place l
    unfolding route_from
    from_ahead b l e =
        clears _ (next (not_long v a) (next (not_past place v b) done)) ∙ ap (route_ahead place) e

    pub from_end : place ≡ length v → route_from v place ≡ given no_route
    unfolding route_ahead
    from_end e = from_ahead (omega arith) [] (drop_of_length-le v {i = place} (omega arith))

    module _ (b : place < length v) where
      abbrev w : ℕ
      w = get_or v place 0

      abbrev behind : List ℕ
      behind = drop (place + 1) v

      -- the rows from the place on
      pub from_rows : route_rows (drop place v) ≡ route_row_of w behind ∷ route_rows (drop (behind_width w) behind)
      from_rows = ap route_rows (drop_one v place b) ∙ rows_more w behind

      pub from_refused : (k : ℕ) → Refuses (row_checks w behind) k → route_from v place ≡ refused k
      unfolding route_ahead
      from_refused k r = from_ahead (omega arith) (w ∷ behind) (drop_one v place b) ∙ refuses _ r

      pub from_route : Clear (row_checks w behind) → route_from v place ≡ given (route (route_in w behind) (place + (1 + behind_width w)))
      unfolding route_ahead
      from_route c = from_ahead (omega arith) (w ∷ behind) (drop_one v place b) ∙ clears _ c

      -- by the tests of code, with the significant bytes counted
      module _ (n : ℕ) (least : w ≤ most_width) (is : n ≡ min 4 (significant w)) where
        exactly : n ≡ significant w
        exactly = omega (arith, significant_least w 4 least)

        pub cut_10 : length v - (place + 1) < n + 4 → Refuses (row_checks w behind) 10
        unfolding behind_width
        cut_10 h = row_10 w behind least (omega (arith, exactly, length-drop (place + 1) v))

        module _ (whole : n + 4 ≤ length v - (place + 1)) where
          pub whole_clear : Clear (row_checks w behind)
          unfolding behind_width
          whole_clear = row_clear w behind least (omega (arith, exactly, length-drop (place + 1) v))

          pub whole_to : place + (1 + behind_width w) ≡ place + 1 + n + 4
          unfolding behind_width
          whole_to = omega (arith, exactly)

          pub whole_route : Bytes v → route_in w behind
              ≡ record {
                width = w;
                destination = masked w (number_at 4 v (place + 1));
                gateway = number_at 4 v (place + 1 + n);
              }
          whole_route bytes =
              let to : number (take 4 behind) ≡ number_at 4 v (place + 1) = sym (number_there 4 v (place + 1) (omega arith)) in
              let via : number (take 4 (drop (significant w) behind)) ≡ number_at 4 v (place + 1 + n) =
              ap (λ (k : ℕ). number (take 4 (drop k behind))) (sym exactly)
              ∙ ap (λ (l : List ℕ). number (take 4 l)) (drop-drop n (place + 1) v)
              ∙ sym (number_there 4 v (place + 1 + n) (omega arith)) in
              route_read w least behind (omega (arith, length-drop (place + 1) v)) (bytes_drop (place + 1) v bytes)
              ∙ (λ i. record { width = w; destination = masked w (to i); gateway = via i })

          pub whole_rows : route_rows (drop (behind_width w) behind) ≡ route_rows (drop (place + 1 + n + 4) v)
          whole_rows =
              let e : place + 1 + behind_width w ≡ place + 1 + n + 4 = omega (arith, whole_to) in
              ap route_rows (drop-drop (behind_width w) (place + 1) v) ∙ ap (λ (k : ℕ). route_rows (drop k v)) e
