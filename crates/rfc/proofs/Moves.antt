-- The laws of `specs/Moves.antt`: what the rule for widths gives; pairs that are moved out come back, and routes that are moved back
-- come out the same; each move by its checks.
-- Assumes nothing.
use mathlib.Core.Path.{◌≡◌, refl, sym, ap, ◌∙◌, subst}
use Prim.Native.Nat.{ℕ, suc, zero, ◌+◌, ◌-◌, ◌*◌, ◌/◌, ◌%◌, ◌^◌, ◌≤◌, ◌<◌, min}
use mathlib.Core.Bool.{Bool, true, false, cond, not}
use mathlib.Core.List.{List, [], ◌∷◌, ◌++◌, map, flatten}
use native.Mathlib.Omega.{arith}
use native.Mathlib.Nat.{not-suc-le-zero, le_refl, mul-lt-mul_of_pos_right}
use lib.Pow.{pow-add}
use lib.Dec.{eqb, lit<}
use lib.ListN.{length, take, drop, length-append, length-take, length-drop, take-append-drop}
use lib.Seq.{length-take-le, take-add}
use borrow.Author.Tests.{eqb-true, eq-eqb, ne_eqb, not-false}
use Rattle.facts.specs.BigEndian.{number, digits}
use Rattle.facts.specs.Each.{Each}
use Rattle.facts.specs.Pieces.{pieces}
use Rattle.facts.specs.Ranges.{within, lookup}
use Rattle.facts.proofs.BigEndian.{number_digits, number_below, writes_back, high_digits, some}
use Rattle.facts.proofs.Ranges.{one_answer}
use Rattle.facts.proofs.Pieces.{pieces_more, pieces_none, flatten_pieces}
use Rattle.rfc.specs.Numbers.{given, first_refusal}
use Rattle.rfc.specs.Kinds.{size_of, sizes}
use Rattle.rfc.specs.Lists.{Bytes}
use Rattle.rfc.specs.Routes.{Route, most_width, significant, route_bytes}
use Rattle.rfc.specs.Classless.{masked, as_read, Fitting, route_in, behind_width, row_checks, RouteRow, route_rows}
use Rattle.rfc.specs.Strung.{RowMade, all_checks, all_bytes}
use Rattle.rfc.specs.Moves.{octet, classes, width_for, barred, pair_route, route_out, pair_out, out_rows, outward, old_form_checks, row_back, back_rows, backward}
use Rattle.rfc.proofs.Numbers.{here as now-refuses, later as then-refuses, Clear, done, next, clear_both, clear_front, clear_behind, first_is, none_first}
use Rattle.rfc.proofs.Bytes.{byte_below, bytes_take, bytes_drop}
use Rattle.rfc.proofs.Routes.{significant_least, length_route}
use Rattle.rfc.proofs.Strung.{checks_none, checks_more, bytes_none, bytes_more, strung_given, given_strung}
use Rattle.rfc.proofs.Classless.{route_row_of, rows_none, rows_more, clear_row, whole_bytes, rest_of, rows_front, back_clear}

-- a width that the rule gives a destination: whole bytes, and no bit behind them
pub record Ruled (d w : ℕ) : Type 0 where
  pub keeps : masked w d ≡ d
  pub whole : 8 * significant w ≡ w
  pub most : w ≤ most_width

all_bits : (d : ℕ) → Ruled d most_width
unfolding masked significant
all_bits d = record { keeps = omega arith; whole = refl; most = le_refl _ }

-- where a test holds that some whole bytes are all that is not zero
if_whole : (d w : ℕ) (t : Bool) → eqb (masked w d) d ≡ t → 8 * significant w ≡ w → w ≤ most_width → Ruled d (cond t w most_width)
if_whole d w true e h g = record { keeps = eqb-true (masked w d) d e; whole = h; most = g }
if_whole d w false e h g = all_bits d

pub rule : (d : ℕ) → Ruled d (width_for d)
unfolding width_for classes lookup significant
rule d = go (within 0 127 (octet d)) (within 128 191 (octet d)) (within 192 223 (octet d))
  where
    go : (a b c : Bool) → Ruled d (let w : ℕ = cond a 8 (cond b 16 (cond c 24 most_width)) in cond (eqb (masked w d) d) w most_width)
    go true b c = if_whole d 8 _ refl refl (omega arith)
    go false true c = if_whole d 16 _ refl refl (omega arith)
    go false false true = if_whole d 24 _ refl refl (omega arith)
    go false false false = if_whole d most_width _ refl refl (le_refl _)

-- the rule, class by class: a width and what stands behind it
module _ (d w : ℕ) (class : lookup most_width classes (octet d) ≡ w) where
  ruled_by : masked w d ≡ d → width_for d ≡ w
  unfolding width_for
  ruled_by e = rw (class, eq-eqb (masked w d) d e)

  ruled_out : (masked w d ≡ d → ⊥) → width_for d ≡ most_width
  unfolding width_for
  ruled_out e = rw (class, ne_eqb (masked w d) d e)

module _ (d : ℕ) where
  module _ (h : octet d < 128) where
    class_8 : lookup most_width classes (octet d) ≡ 8
    unfolding classes
    class_8 = one_answer most_width 0 127 (octet d) (omega arith) (omega arith) classes 8 refl

    pub width_8 : d % 2 ^ 24 ≡ 0 → width_for d ≡ 8
    unfolding masked
    width_8 e = ruled_by d 8 class_8 (omega arith)

    pub not_8 : (d % 2 ^ 24 ≡ 0 → ⊥) → width_for d ≡ most_width
    unfolding masked
    not_8 e = ruled_out d 8 class_8 (λ m. e (omega arith))

  module _ (h : 128 ≤ octet d) (g : octet d < 192) where
    class_16 : lookup most_width classes (octet d) ≡ 16
    unfolding classes
    class_16 = one_answer most_width 128 191 (octet d) h (omega arith) classes 16 refl

    pub width_16 : d % 2 ^ 16 ≡ 0 → width_for d ≡ 16
    unfolding masked
    width_16 e = ruled_by d 16 class_16 (omega arith)

    pub not_16 : (d % 2 ^ 16 ≡ 0 → ⊥) → width_for d ≡ most_width
    unfolding masked
    not_16 e = ruled_out d 16 class_16 (λ m. e (omega arith))

  module _ (h : 192 ≤ octet d) (g : octet d < 224) where
    class_24 : lookup most_width classes (octet d) ≡ 24
    unfolding classes
    class_24 = one_answer most_width 192 223 (octet d) h (omega arith) classes 24 refl

    pub width_24 : d % 2 ^ 8 ≡ 0 → width_for d ≡ 24
    unfolding masked
    width_24 e = ruled_by d 24 class_24 (omega arith)

    pub not_24 : (d % 2 ^ 8 ≡ 0 → ⊥) → width_for d ≡ most_width
    unfolding masked
    not_24 e = ruled_out d 24 class_24 (λ m. e (omega arith))

  -- with any other first octet
  pub no_class : 224 ≤ octet d → octet d < 256 → width_for d ≡ most_width
  unfolding classes masked
  no_class h g = ruled_by d most_width (one_answer most_width 224 255 (octet d) h (omega arith) classes most_width refl) (omega arith)

four_back : (l : List ℕ) → length l ≡ 4 → Bytes l → (digits 4 (number l) ≡ l) × (number l < 2 ^ 32)
four_back l e b =
    let g = byte_below l b in (
      ap (λ (k : ℕ). digits k (number l)) (sym e) ∙ writes_back 0 l g,
      subst (λ (k : ℕ). number l < 256 ^ k) e (number_below l g),
    )

-- the bytes of a pair
abbrev pub Pair : List ℕ → Type 0
Pair p = (length p ≡ 8) × Bytes p

-- the route of a pair
abbrev pub route_of_pair : List ℕ → Route
route_of_pair p = pair_route (number (take 4 p)) (number (drop 4 p))

not_barred : (p : List ℕ) → Clear (pair_out p).checks → barred (route_of_pair p).destination ≡ false
unfolding pair_out route_out
not_barred p (next free c) = free

pub out_bytes : (p : List ℕ) → (pair_out p).bytes ≡ route_bytes (route_of_pair p)
unfolding pair_out route_out
out_bytes p = refl

pub back_checks : (r : RouteRow) → (row_back r).checks ≡ r.checks ++ old_form_checks r.route
unfolding row_back
back_checks r = refl

pub back_bytes : (r : RouteRow) → (row_back r).bytes ≡ digits 4 r.route.destination ++ digits 4 r.route.gateway
unfolding row_back
back_bytes r = refl

-- a pair whose destination is not barred, moved out, with anything behind it, is the first row, and goes back to the pair
module _ (p : List ℕ) (pair : Pair p) (free : barred (route_of_pair p).destination ≡ false) (more : List ℕ) where
  abbrev r : Route
  r = route_of_pair p

  first : (digits 4 (number (take 4 p)) ≡ take 4 p) × (number (take 4 p) < 2 ^ 32)
  first = four_back (take 4 p) (omega (arith, length-take 4 p, pair.0)) (bytes_take 4 p pair.1)

  second : (digits 4 (number (drop 4 p)) ≡ drop 4 p) × (number (drop 4 p) < 2 ^ 32)
  second = four_back (drop 4 p) (omega (arith, length-drop 4 p, pair.0)) (bytes_drop 4 p pair.1)

  fit : Fitting r
  unfolding pair_route
  fit = ((rule (number (take 4 p))).most, first.1, second.1)

  same : as_read r ≡ r
  unfolding as_read pair_route
  same = λ i. record {
    width = width_for (number (take 4 p));
    destination = (rule (number (take 4 p))).keeps i;
    gateway = number (drop 4 p);
  }

  old_form : Clear (old_form_checks r)
  unfolding old_form_checks pair_route
  old_form = let w : ℕ = width_for (number (take 4 p)) in next free (next (ap not (eq-eqb w w refl)) done)

  bytes_back : digits 4 r.destination ++ digits 4 r.gateway ≡ p
  unfolding pair_route
  bytes_back = (λ i. first.0 i ++ second.0 i) ∙ take-append-drop 4 p

  pub one_back : (ms : List RowMade) → ms ≡ map row_back (route_rows (route_bytes r ++ more))
      → Clear (all_checks (map row_back (route_rows more)))
      → Clear (all_checks ms) × (all_bytes ms ≡ p ++ all_bytes (map row_back (route_rows more)))
  unfolding row_back
  one_back ms is later =
      let row : RouteRow = record { checks = row_checks r.width (rest_of r more); route = r } in
      let front : ms ≡ row_back row ∷ map row_back (route_rows more) =
      is ∙ ap (map row_back) (rows_front r fit more)
      ∙ ap (λ (x : Route). row_back (record { checks = row.checks; route = x }) ∷ map row_back (route_rows more)) same in
      rw (front, checks_more (row_back row) (map row_back (route_rows more)), bytes_more (row_back row) (map row_back (route_rows more))) (
        clear_both (clear_both (back_clear r fit more) old_form) later,
        ap (λ (l : List ℕ). l ++ all_bytes (map row_back (route_rows more))) bytes_back,
      )

-- all pairs
all_back : (ps : List (List ℕ)) → Each Pair ps → Clear (all_checks (map pair_out ps))
    → Clear (all_checks (map row_back (route_rows (all_bytes (map pair_out ps)))))
    × (all_bytes (map row_back (route_rows (all_bytes (map pair_out ps)))) ≡ flatten ps)
unfolding flatten
all_back [] each clear = rw (bytes_none, rows_none, checks_none, bytes_none) (done, refl)
all_back (p ∷ ps) each clear =
    let ms : List RowMade = map pair_out ps in
    let both : Clear ((pair_out p).checks ++ all_checks ms) = rw (checks_more (pair_out p) ms) at clear in
    let behind : List ℕ = all_bytes ms in
    let later = all_back ps each.1 (clear_behind (pair_out p).checks both) in
    let free = not_barred p (clear_front (pair_out p).checks (all_checks ms) both) in
    let here = one_back p each.0 free behind (map row_back (route_rows (route_bytes (route_of_pair p) ++ behind))) refl later.0 in
    rw (bytes_more (pair_out p) ms, out_bytes p) (here.0, here.1 ∙ ap (λ (l : List ℕ). p ++ l) later.1)

-- a list of whole pairs
pairs_of : (n : ℕ) (v : List ℕ) → length v ≡ n * 8 → Bytes v → Each Pair (pieces 8 v)
pairs_of zero [] e b = rw (pieces_none 8) tt
pairs_of zero (x ∷ v) e b = absurd (omega arith)
pairs_of (suc n) v e b =
    rw (pieces_more 8 (lit< tt) v (omega arith)) (
      (omega (arith, length-take 8 v), bytes_take 8 v b),
      pairs_of n (drop 8 v) (omega (arith, length-drop 8 v)) (bytes_drop 8 v b),
    )

pub pairs_come_back : (v moved : List ℕ) → Bytes v → length v % size_of 3 ≡ 0 → outward v ≡ given moved → backward moved ≡ given v
unfolding outward out_rows backward back_rows size_of sizes
pairs_come_back v moved b even e =
    let out = given_strung (map pair_out (pieces 8 v)) moved e in
    let back = all_back (pieces 8 v) (pairs_of (length v / 8) v (omega arith) b) out.0 in
    rw (← out.1) (strung_given _ back.0 ∙ ap given (back.1 ∙ flatten_pieces 8 (lit< tt) v))

-- a row that moves back, with its bytes: the pair that it gives is a whole one, and moves out to the row
module _ (w : ℕ) (rest : List ℕ) (b : Bytes rest) (clear : Clear (row_back (route_row_of w rest)).checks) where
  abbrev n : ℕ
  n = significant w

  abbrev the_route : Route
  the_route = route_in w rest

  row_is : (w ≤ most_width) × (n + 4 ≤ length rest)
  unfolding row_back behind_width
  row_is = clear_row w rest (clear_front (row_checks w rest) (old_form_checks the_route) clear)

  old_is : (barred the_route.destination ≡ false) × (width_for the_route.destination ≡ w)
  unfolding row_back old_form_checks route_in
  old_is = go (clear_behind (row_checks w rest) clear)
    where
      go : Clear (old_form_checks (route_in w rest))
          → (barred (route_in w rest).destination ≡ false) × (width_for (route_in w rest).destination ≡ w)
      go (next free (next width c)) = (free, eqb-true (width_for (route_in w rest).destination) w (not-false _ width))

  ruled : Ruled the_route.destination w
  ruled = subst (Ruled the_route.destination) old_is.1 (rule the_route.destination)

  -- the significant bytes
  abbrev to : List ℕ
  to = take n rest

  length_to : length to ≡ n
  length_to = length-take-le n rest (omega (arith, row_is.1))

  low : number to < 256 ^ n
  low = subst (λ (k : ℕ). number to < 256 ^ k) length_to (number_below to (byte_below to (bytes_take n rest b)))

  destination_is : the_route.destination ≡ number to * 256 ^ (4 - n)
  unfolding route_in
  destination_is = whole_bytes w row_is.0 ruled.whole (number to)

  to_is : take n (digits 4 the_route.destination) ≡ to
  to_is =
      let e : n + (4 - n) ≡ 4 = omega (arith, significant_least w 4 row_is.0) in
      ap (λ (d : ℕ). take n (digits 4 d)) destination_is
      ∙ ap (λ (k : ℕ). take n (digits k (number to * 256 ^ (4 - n)))) (sym e)
      ∙ high_digits n (4 - n) (number to)
      ∙ ap (λ (k : ℕ). digits k (number to)) (sym length_to)
      ∙ writes_back 0 to (byte_below to (bytes_take n rest b))

  via_is : (digits 4 the_route.gateway ≡ take 4 (drop n rest)) × (the_route.gateway < 2 ^ 32)
  unfolding route_in
  via_is =
      four_back (take 4 (drop n rest)) (length-take-le 4 (drop n rest) (omega (arith, row_is.1, length-drop n rest)))
      (bytes_take 4 (drop n rest) (bytes_drop n rest b))

  destination_low : the_route.destination < 2 ^ 32
  destination_low =
      let four : n + (4 - n) ≡ 4 = omega (arith, significant_least w 4 row_is.0) in
      let e : 256 ^ n * 256 ^ (4 - n) ≡ 256 ^ 4 = sym (pow-add 256 n (4 - n)) ∙ ap (λ (k : ℕ). 256 ^ k) four in
      rw destination_is (rw e at (mul-lt-mul_of_pos_right low (some (4 - n))))

  abbrev pair : List ℕ
  pair = digits 4 the_route.destination ++ digits 4 the_route.gateway

  pair_is : route_of_pair pair ≡ the_route
  unfolding pair_route route_in
  pair_is =
      let d : number (take 4 pair) ≡ the_route.destination = number_digits 4 the_route.destination destination_low in
      λ i. record {
        width = (ap width_for d ∙ old_is.1) i;
        destination = d i;
        gateway = number_digits 4 the_route.gateway via_is.1 i;
      }

  -- the row's own bytes
  row_bytes : route_bytes the_route ≡ w ∷ take (n + 4) rest
  unfolding route_bytes route_in
  row_bytes =
      (λ i. w ∷ (to_is i ++ via_is.0 i))
      ∙ ap (λ (l : List ℕ). w ∷ l) (sym (take-add n 4 rest))

  -- so it is the first that is moved out
  pub one_out : (ms : List RowMade)
      → (Clear (all_checks ms) → Clear (all_checks (pair_out pair ∷ ms)))
      × (all_bytes (pair_out pair ∷ ms) ≡ w ∷ (take (behind_width w) rest ++ all_bytes ms))
  unfolding behind_width pair_out route_out
  one_out ms =
      let free : barred (route_of_pair pair).destination ≡ false = ap (λ (r : Route). barred r.destination) pair_is ∙ old_is.0 in
      let bytes : route_bytes (route_of_pair pair) ≡ w ∷ take (n + 4) rest = ap route_bytes pair_is ∙ row_bytes in
      rw (checks_more (pair_out pair) ms, bytes_more (pair_out pair) ms)
      ((λ later. clear_both (next free done) later), ap (λ (l : List ℕ). l ++ all_bytes ms) bytes)

-- all rows of a value
abbrev Out : List ℕ → Type 0
Out v =
    Clear (all_checks (map pair_out (pieces 8 (all_bytes (map row_back (route_rows v))))))
    × (all_bytes (map pair_out (pieces 8 (all_bytes (map row_back (route_rows v))))) ≡ v)

none_out : Out []
none_out = rw (rows_none, bytes_none, pieces_none 8, checks_none, bytes_none) (done, refl)

all_out : (k : ℕ) (v : List ℕ) → length v ≤ k → Bytes v → Clear (all_checks (map row_back (route_rows v))) → Out v
all_out zero [] h b clear = none_out
all_out zero (w ∷ rest) h b clear = absurd (not-suc-le-zero h)
all_out (suc k) [] h b clear = none_out
all_out (suc k) (w ∷ rest) h b clear =
    let row : RouteRow = route_row_of w rest in
    let behind : List ℕ = drop (behind_width w) rest in
    let ms : List RowMade = map row_back (route_rows behind) in
    let both : Clear ((row_back row).checks ++ all_checks ms) = rw (rows_more w rest, checks_more (row_back row) ms) at clear in
    let this = clear_front (row_back row).checks (all_checks ms) both in
    let later = all_out k behind (omega (arith, length-drop (behind_width w) rest)) (bytes_drop (behind_width w) rest b.1)
    (clear_behind (row_back row).checks both) in
    let p : List ℕ = digits 4 (route_in w rest).destination ++ digits 4 (route_in w rest).gateway in
    let cut : pieces 8 (p ++ all_bytes ms) ≡ p ∷ pieces 8 (all_bytes ms) = pieces_more 8 (lit< tt) (p ++ all_bytes ms) (omega arith) in
    let here = one_out w rest b.1 this (map pair_out (pieces 8 (all_bytes ms))) in
    rw (rows_more w rest, bytes_more (row_back row) ms, back_bytes row, cut) (
      here.0 later.0,
      here.1 ∙ ap (λ (l : List ℕ). w ∷ (take (behind_width w) rest ++ l)) later.1
          ∙ ap (λ (l : List ℕ). w ∷ l) (take-append-drop (behind_width w) rest),
    )

pub routes_come_back : (v moved : List ℕ) → Bytes v → backward v ≡ given moved → outward moved ≡ given v
unfolding outward out_rows backward back_rows size_of sizes
routes_come_back v moved b e =
    let back = given_strung (map row_back (route_rows v)) moved e in
    let out = all_out (length v) v (le_refl _) b back.0 in
    rw (← back.1) (strung_given _ out.0 ∙ ap given out.1)

-- the rows of a value from a place on, as code goes over them: by pairs
pub out_none : out_rows [] ≡ []
unfolding out_rows size_of sizes
out_none = ap (map pair_out) (pieces_none 8)

-- and by rows
pub back_none : back_rows [] ≡ []
unfolding back_rows
back_none = ap (map row_back) rows_none

pub back_more : (rows : List RouteRow) (r : RouteRow) (v : List ℕ) → route_rows v ≡ r ∷ rows → back_rows v ≡ row_back r ∷ map row_back rows
unfolding back_rows
back_more rows r v e = ap (map row_back) e

pub back-rows : (v : List ℕ) → map row_back (route_rows v) ≡ back_rows v
unfolding back_rows
back-rows v = refl

-- what a move makes of one row, by its number and its length
module _ (r : Route) where
  pub old_18 : barred r.destination ≡ true → first_refusal (old_form_checks r) ≡ 18
  unfolding old_form_checks
  old_18 e = first_is (now-refuses e)

  module _ (free : barred r.destination ≡ false) where
    pub old_19 : (width_for r.destination ≡ r.width → ⊥) → first_refusal (old_form_checks r) ≡ 19
    unfolding old_form_checks
    old_19 e = first_is (then-refuses free (now-refuses (ap not (ne_eqb (width_for r.destination) r.width e))))

    pub old_none : width_for r.destination ≡ r.width → first_refusal (old_form_checks r) ≡ 0
    unfolding old_form_checks
    old_none e = none_first (next free (next (ap not (eq-eqb (width_for r.destination) r.width e)) done))

-- where there is a row, something is made of it
pub out_some : (v : List ℕ) → 0 < length v → 0 < length (all_bytes (out_rows v))
unfolding out_rows size_of sizes
out_some v h =
    let p : List ℕ = take 8 v in
    let behind : List RowMade = map pair_out (pieces 8 (drop 8 v)) in
    let e : all_bytes (map pair_out (pieces 8 v)) ≡ (pair_out p).bytes ++ all_bytes behind =
    ap (λ (ps : List (List ℕ)). all_bytes (map pair_out ps)) (pieces_more 8 (lit< tt) v h) ∙ bytes_more (pair_out p) behind in
    let n : length (pair_out p).bytes ≡ 1 + min 4 (significant (route_of_pair p).width) + 4 =
    ap length (out_bytes p) ∙ length_route (route_of_pair p) (min 4 (significant (route_of_pair p).width)) refl in
    omega (arith, ap length e, length-append (pair_out p).bytes (all_bytes behind))

pub back_some : (v : List ℕ) → 0 < length v → 0 < length (all_bytes (back_rows v))
unfolding back_rows
back_some [] h = absurd (not-suc-le-zero h)
back_some (w ∷ rest) h =
    let behind : List RowMade = map row_back (route_rows (drop (behind_width w) rest)) in
    let m : RowMade = row_back (route_row_of w rest) in
    let e : all_bytes (map row_back (route_rows (w ∷ rest))) ≡ m.bytes ++ all_bytes behind =
    ap (λ (rs : List RouteRow). all_bytes (map row_back rs)) (rows_more w rest) ∙ bytes_more m behind in
    let n : length m.bytes ≡ 8 = ap length (back_bytes (route_row_of w rest)) in
    omega (arith, ap length e, length-append m.bytes (all_bytes behind))
