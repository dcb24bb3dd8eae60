-- No area lists the same in fewer bytes: what every call takes at the least, added up over a listing.
-- Assumes nothing.
use mathlib.Core.Path.{◌≡◌, refl, ap, ◌∙◌}
use Prim.Native.Nat.{ℕ, suc, zero, ◌+◌, ◌≤◌}
use native.Mathlib.Omega.{arith}
use mathlib.Core.List.{List, []}
use lib.ListN.{length, length-append}
use lib.Dec.{lit<}
use Rattle.rfc.specs.Numbers.{Answer, given, refused, needs, most_part}
use Rattle.rfc.specs.Walk.{end, Found, stop, option, step}
use Rattle.rfc.specs.Writing.{encode}
use Rattle.rfc.specs.Lists.{Opt, encode_all, Listing, onward, list_in, listing, Bytes}
use Rattle.rfc.proofs.Walk.{step_walked}
use Rattle.rfc.proofs.Places.{end_takes, option_takes, walk_stands, stands_small}
use Rattle.rfc.proofs.Writing.{length_encode}

-- a listing of these options that ends at an End, behind e bytes
abbrev Ends : Listing → List Opt → ℕ → Type 0
Ends l os e = (l.options ≡ os) × (l.ending ≡ given (stop end e))

module _ (area : List ℕ) (room e : ℕ) (bytes : Bytes area) where
  -- a call that ends the listing, at an End
  last_fewest : (place : ℕ) (os : List Opt) → step area place room ≡ given (stop end e) → [] ≡ os → place + length (encode_all os) ≤ e
  unfolding encode_all
  last_fewest place os w none =
      omega (arith, end_takes area place e (step_walked area place room (stop end e) w), ap (λ (x : List Opt). length (encode_all x)) none)

  onward_fewest : (place : ℕ) (os : List Opt) (more : ℕ → Listing)
      → ((p : ℕ) (ps : List Opt) → Ends (more p) ps e → p + length (encode_all ps) ≤ e)
      → (a : Answer Found) → step area place room ≡ a → Ends (onward a more) os e → place + length (encode_all os) ≤ e
  unfolding onward encode_all
  onward_fewest place os more ih (given (stop s p)) w h = last_fewest place os (w ∙ h.1) h.0
  onward_fewest place os more ih (given (option code v n p)) w h =
      let found = step_walked area place room (option code v n p) w in
      let taken = option_takes area place p code v n found in
      let small = stands_small area code v n p (walk_stands area code v n p place found) bytes in
      let rest = ih p (more p).options (refl, h.1) in
      let long = length-append (encode most_part code v) (encode_all (more p).options) in
      omega (arith, ap (λ (x : List Opt). length (encode_all x)) h.0, length_encode most_part (lit< tt) code v)
  onward_fewest place os more ih (refused k) w h = last_fewest place os (w ∙ h.1) h.0
  onward_fewest place os more ih (needs n) w h = last_fewest place os (w ∙ h.1) h.0

  fewest_in : (k place : ℕ) (os : List Opt) → Ends (list_in k area room place) os e → place + length (encode_all os) ≤ e
  unfolding list_in
  fewest_in zero place os h = last_fewest place os h.1 h.0
  fewest_in (suc k) place os h = onward_fewest place os (list_in k area room) (λ p ps. fewest_in k p ps) (step area place room) refl h

-- whatever bytes list these options and then stop at an End reach it behind as many bytes as the writer makes, or more
pub fewest : (area : List ℕ) (room e : ℕ) (os : List Opt) → Bytes area
    → listing area room ≡ record { options = os; ending = given (stop end e) } → length (encode_all os) ≤ e
unfolding listing
fewest area room e os b h =
    let r = fewest_in area room e b (length area) 0 os (ap (λ (l : Listing). l.options) h, ap (λ (l : Listing). l.ending) h) in
    omega arith
