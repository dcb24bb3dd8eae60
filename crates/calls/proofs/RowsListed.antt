-- Options listed in one call: a row for each option of `listing`.
-- Assumes nothing.
use mathlib.Core.Path.{◌≡◌, refl, sym, ap, ◌∙◌, subst}
use Prim.Native.Nat.{ℕ, suc, zero, ◌+◌, ◌*◌, ◌≤◌, ◌<◌}
use native.Mathlib.Omega.{arith}
use mathlib.Core.List.{List, [], ◌∷◌, ◌++◌}
use native.Mathlib.Nat.{not-suc-le-zero}
use lib.ListN.{length, drop, drop_of_length-le}
use Rattle.rfc.specs.Numbers.{given, most_bytes}
use Rattle.rfc.specs.Walk as walk
use Rattle.rfc.specs.Walk.{Found, stop, option, step}
use Rattle.rfc.specs.Lists as rfc
use Rattle.rfc.proofs.Walk.{walk_out}
use Rattle.rfc.proofs.Places.{option_takes, walk_stands, all_joins}
use Rattle.rfc.proofs.Lists as laws
use Rattle.borrowed.proofs.Answers.{shown_stands}
use Rattle.sindovaleph_rows.specs.Listing as rows
use Rattle.sindovaleph_rows.specs.Listing.{Listing, found}
use Rattle.sindovaleph_rows.proofs.Filling.{list_stop, list_option}
use Rattle.calls.specs.Calls.{TellAll}

-- a listing in rows tells a listing of options, and how it ends
pub record Told (area : List ℕ) (l : Listing) (m : rfc.Listing) : Type 0 where
  pub long : length l.rows ≡ 4 * length m.options
  pub tell : (behind : List ℕ) → TellAll area (l.rows ++ behind) m.options
  pub stop : walk.Stop
  pub last : l.last ≡ rows.at_stop stop
  pub ending : m.ending ≡ given (walk.stop stop l.place)

module _ (area : List ℕ) (short : length area ≤ most_bytes) where
  -- a stop, and an option in front of the rest
  told_stop : {s : walk.Stop} {at : ℕ}
      → Told area (record { rows = []; last = rows.at_stop s; place = at }) (record { options = []; ending = given (stop s at) })
  told_stop {s} = record { long = refl; tell = λ behind. tt; stop = s; last = refl; ending = refl }

  told_option : (place : ℕ) {code : ℕ} {v : List ℕ} {n at : ℕ} {l : Listing} {m : rfc.Listing} → walk.walk place (drop place area) ≡ option code v n at
      → Told area l m
      → Told area (record { rows = rows.row_of found code v n at ++ l.rows; last = l.last; place = l.place })
      (record { options = record { code = code; value = v } ∷ m.options; ending = m.ending })
  told_option place {code} {v} {n} {at} e t =
      record {
        long = omega (arith, t.long);
        tell = λ behind. (
          record {
            same_code = refl;
            same_length = refl;
            value = λ join h. shown_stands (walk_stands area code v n at place e) h join;
          },
          t.tell behind,
        );
        stop = t.stop;
        last = t.last;
        ending = t.ending;
      }

  -- the same listings by other names
  retold : {l l' : Listing} {m m' : rfc.Listing} → l ≡ l' → m ≡ m' → Told area l m → Told area l' m'
  retold {l} {l'} {m} {m'} p q t = subst (λ (x : Listing). Told area x m') p (subst (λ (y : rfc.Listing). Told area l y) q t)

  abbrev in_rows : ℕ → ℕ → Listing
  in_rows k place = rows.list_in k found area place

  abbrev in_options : ℕ → ℕ → rfc.Listing
  in_options j place = rfc.list_in j area most_bytes place

  -- the walk finds what a call finds, whatever it has to join
  finds : (place : ℕ) {f : Found} → place ≤ length area → walk.walk place (drop place area) ≡ f → step area place most_bytes ≡ given f
  finds place within e = all_joins area place most_bytes short within short ∙ ap (λ (f : Found). given f) e

  -- at the area's end nothing is left
  told_none : (k place : ℕ) → place ≤ length area → length area ≤ place → Told area (in_rows (suc k) place) (in_options zero place)
  told_none k place within h =
      let e : walk.walk place (drop place area) ≡ stop walk.out place = ap (walk.walk place) (drop_of_length-le area h) ∙ walk_out place in
      retold (sym (list_stop found k area place e))
      (sym (laws.list_none area most_bytes place ∙ (λ i. record { options = []; ending = finds place within e i }))) told_stop

  -- before it one option or none, and the rest behind it
  told_next : (j k place : ℕ) → place ≤ length area → length area ≤ place + suc j → length (in_options (suc j) place).options < suc k
      → ((at : ℕ) → at ≤ length area → length area ≤ at + j → length (in_options j at).options < k → Told area (in_rows k at) (in_options j at))
      → Told area (in_rows (suc k) place) (in_options (suc j) place)
  told_next j k place within h room rest = go (walk.walk place (drop place area)) refl
    where
      go : (f : Found) → walk.walk place (drop place area) ≡ f → Told area (in_rows (suc k) place) (in_options (suc j) place)
      go (stop s at) e =
          retold (sym (list_stop found k area place e)) (sym (laws.list_stop area most_bytes place j (finds place within e))) told_stop
      go (option code v n at) e =
          let stands = walk_stands area code v n at place e in
          let takes = option_takes area place at code v n e in
          let is = laws.list_option area most_bytes place j (finds place within e) in
          retold (sym (list_option found k area place e)) (sym is)
          (told_option place e
          (rest at stands.within (omega (arith, takes, stands.some)) (omega (arith, ap (λ (m : rfc.Listing). length m.options) is))))

  pub told : (j k place : ℕ) → place ≤ length area → length area ≤ place + j → length (in_options j place).options < k
      → Told area (in_rows k place) (in_options j place)
  told j zero place within h room = absurd (not-suc-le-zero room)
  told zero (suc k) place within h room = told_none k place within (omega arith)
  told (suc j) (suc k) place within h room = told_next j k place within h room (λ at w g r. told j k at w g r)
