-- The laws of `specs/Routes.antt`: the bytes of a route and of a table, which widths are too large, and the writer by its checks.
-- Assumes nothing.
use mathlib.Core.Path.{◌≡◌, refl, ap, sym, ◌∙◌}
use Prim.Native.Nat.{ℕ, ◌+◌, ◌*◌, ◌/◌, ◌≤◌, ◌<◌, min}
use mathlib.Core.Bool.{true, false}
use mathlib.Core.List.{List, [], ◌∷◌, ◌++◌}
use native.Mathlib.Omega.{arith}
use lib.ListN.{length, take, length-append, length-take}
use lib.Seq.{length-take-le}
use borrow.Author.Tests.{lt-ltb, le-ltb}
use Rattle.facts.specs.BigEndian.{digits}
use Rattle.facts.specs.Over.{over}
use Rattle.facts.proofs.Least.{take_least}
use Rattle.rfc.specs.Numbers.{given, refused, most_bytes, most_value, most_part}
use Rattle.rfc.specs.Writing.{encode, Write, write_checks, answer_to, room_after}
use Rattle.rfc.specs.Routes.{Route, routes_code, most_width, significant, route_bytes, routes_bytes, too_wide, write_routes}
use Rattle.rfc.proofs.Numbers.{here, later, done, next, long, not_long, past, much, not_much, full, not_full}
use Rattle.rfc.proofs.Writing.{write_refused, write_given, given_left, room_behind, room_clear}

-- the significant bytes have as many bits as the width, and no fewer bytes have
pub significant_covers : (width : ℕ) → width ≤ 8 * significant width
unfolding significant
significant_covers width = omega arith

pub significant_least : (width n : ℕ) → width ≤ 8 * n → significant width ≤ n
unfolding significant
significant_least width n h = omega arith

pub significant_is : (width : ℕ) → significant width ≡ (width + 7) / 8
unfolding significant
significant_is width = refl

-- an address has four bytes, so that no more are taken
pub route_is : (r : Route) (n : ℕ) → n ≡ min 4 (significant r.width)
    → route_bytes r ≡ r.width ∷ (take n (digits 4 r.destination) ++ digits 4 r.gateway)
unfolding route_bytes
route_is r n e =
    let to : List ℕ = digits 4 r.destination in
    let m : n ≡ min (significant r.width) 4 = omega arith in
    let t : take n to ≡ take (significant r.width) to = ap (λ (k : ℕ). take k to) m ∙ take_least (significant r.width) to in
    ap (λ (l : List ℕ). r.width ∷ (l ++ digits 4 r.gateway)) (sym t)

pub length_route : (r : Route) (n : ℕ) → n ≡ min 4 (significant r.width) → length (route_bytes r) ≡ 1 + n + 4
length_route r n e =
    let to : List ℕ = digits 4 r.destination in
    omega (arith, ap length (route_is r n e), length-append (take n to) (digits 4 r.gateway), length-take n to)

-- where the parts of a route stand: the width is its first byte; behind it are the significant bytes of the destination, as they stand;
-- and behind these is the gateway, and nothing else
module _ (r : Route) (h : r.width ≤ most_width) where
  abbrev many : ℕ
  many = significant r.width

  abbrev to : List ℕ
  to = take many (digits 4 r.destination)

  abbrev via : List ℕ
  via = digits 4 r.gateway

  length_to : many ≡ length to
  length_to = sym (length-take-le many (digits 4 r.destination) (significant_least r.width 4 h))

pub routes_none : routes_bytes [] ≡ []
unfolding routes_bytes
routes_none = refl

pub routes_more : (r : Route) (rs : List Route) → routes_bytes (r ∷ rs) ≡ route_bytes r ++ routes_bytes rs
unfolding routes_bytes
routes_more r rs = refl

pub wide_none : too_wide [] ≡ false
unfolding too_wide
wide_none = refl

pub wide_first : (r : Route) (rs : List Route) → most_width < r.width → too_wide (r ∷ rs) ≡ true
unfolding too_wide
wide_first r rs h = rw (lt-ltb most_width r.width h)

pub wide_later : (r : Route) (rs : List Route) → r.width ≤ most_width → too_wide (r ∷ rs) ≡ too_wide rs
unfolding too_wide
wide_later r rs h = rw (le-ltb most_width r.width h)

-- the writer, check by check
module _ (rs : List Route) (room : List ℕ) (place : ℕ) where
  abbrev value : List ℕ
  value = routes_bytes rs

  abbrev parts : List ℕ
  parts = encode most_part routes_code value

  abbrev write : Write
  write = write_routes rs room place

  pub routes_2 : most_bytes < length room → answer_to write room place ≡ refused 2
  unfolding write_routes write_checks
  routes_2 a = write_refused write room place (here (long room a))

  module _ (a : length room ≤ most_bytes) where
    pub routes_4 : length room < place → answer_to write room place ≡ refused 4
    unfolding write_routes write_checks
    routes_4 b = write_refused write room place (later (not_long room a) (here (past place room b)))

    module _ (b : place ≤ length room) where
      pub routes_12 : too_wide rs ≡ true → answer_to write room place ≡ refused 12
      unfolding write_routes write_checks
      routes_12 c = write_refused write room place (room_behind room place a b (here c))

      module _ (c : too_wide rs ≡ false) where
        pub routes_7 : most_value < length value → answer_to write room place ≡ refused 7
        unfolding write_routes write_checks
        routes_7 d = write_refused write room place (room_behind room place a b (later c (here (much value d))))

        module _ (d : length value ≤ most_value) where
          pub routes_8 : length room < place + length parts → answer_to write room place ≡ refused 8
          unfolding write_routes write_checks
          routes_8 e =
              write_refused write room place
              (room_behind room place a b (later c (later (not_much value d) (here (full room place parts e)))))

          module _ (e : place + length parts ≤ length room) where
            pub routes_given : answer_to write room place ≡ given (place + length parts)
            unfolding write_routes write_checks
            routes_given =
                write_given write room place
                (room_clear room place a b (next c (next (not_much value d) (next (not_full room place parts e) done))))

            pub routes_left : room_after write room place ≡ over room place parts
            unfolding write_routes
            routes_left = given_left write room place _ routes_given
