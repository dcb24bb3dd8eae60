-- What is left of a field from a place on, by what a call answers there (`portion_at`): a loop goes over its parts so.
-- Assumes nothing.
use mathlib.Core.Path.{◌≡◌, refl, sym, ap, subst, ◌∙◌}
use Prim.Native.Nat.{ℕ, ◌+◌, ◌≤◌, ◌<◌}
use native.Mathlib.Decide.{dec_le}
use native.Mathlib.Omega.{arith}
use mathlib.Core.List.{List, [], ◌∷◌}
use lib.ListN.{length, drop, length-drop}
use lib.Seq.{drop-drop}
use Rattle.std.specs.Result.{IsOk}
use Rattle.std.specs.Prelude.{Option, Some, None, Result, Ok, Err}
use Rattle.rfc.specs.Portions as rfc
use Rattle.rfc.specs.Portions.{Portion, portion, next_portion, cut_field, whole, ahead, portions}
use Rattle.rfc.proofs.Portions.{none-at, stands, ended, is-cut, one_part, ahead_is}
use Rattle.portions.specs.Told.{next_of, Gives}
use Rattle.refusal.specs.declared.Refusal.{Refusal}
use Rattle.refusal.specs.declared.Refusal.TheVariants.{FieldCut}
use Rattle.portions.specs.declared.Portion as numbers

-- the first part of what is left of a field, by its numbers, in front of what stands behind its place
pub record FirstPart (bytes : List ℕ) (at code len place : ℕ) : Type 0 where
  pub value : List ℕ
  pub long : length value ≡ len
  pub behind : at + 2 + len ≤ place
  pub within : place ≤ length bytes
  pub is : portions at (drop at bytes) ≡ ahead (portion code value place) (portions place (drop place bytes))

-- what is left of a field, by what a call answers there
module _ (bytes : List ℕ) (at : ℕ) {r : Result (Option numbers.Portion) Refusal} (told : r ≡ next_of (next_portion at (drop at bytes))) where
  pub ended_left : r ≡ Ok None → portions at (drop at bytes) ≡ whole []
  ended_left e = go (next_portion at (drop at bytes)) refl
    where
      go : (x : rfc.Next) → next_portion at (drop at bytes) ≡ x → portions at (drop at bytes) ≡ whole []
      go rfc.no_more w = ended at (drop at bytes) w
      go rfc.cut_part w = cc (ap next_of w)
      go (rfc.next p l) w = cc (ap next_of w)

  pub cut_left : {f : Refusal} → r ≡ Err f → portions at (drop at bytes) ≡ cut_field
  cut_left {f} e = go (next_portion at (drop at bytes)) refl
    where
      go : (x : rfc.Next) → next_portion at (drop at bytes) ≡ x → portions at (drop at bytes) ≡ cut_field
      go rfc.no_more w = cc (ap next_of w)
      go rfc.cut_part w = is-cut at (drop at bytes) w
      go (rfc.next p l) w = cc (ap next_of w)

  pub cut_inside : {f : Refusal} → r ≡ Err f → at < length bytes
  cut_inside {f} e = go (dec_le (length bytes) at)
    where
      go : Dec (length bytes ≤ at) → at < length bytes
      go (yes h) = cc (ap next_of (none-at bytes at h))
      go (no h) = omega arith

  pub cut_says : {f : Refusal} → r ≡ Err f → f ≡ FieldCut
  cut_says {f} e = go (next_portion at (drop at bytes)) refl
    where
      go : (x : rfc.Next) → next_portion at (drop at bytes) ≡ x → f ≡ FieldCut
      go rfc.no_more w = cc (ap next_of w)
      go rfc.cut_part w = cc (ap next_of w)
      go (rfc.next p l) w = cc (ap next_of w)

  pub first_part : {q : numbers.Portion} → r ≡ Ok (Some q) → FirstPart bytes at q.code q.len q.place
  first_part {q} e = go (next_portion at (drop at bytes)) refl
    where
      go : (x : rfc.Next) → next_portion at (drop at bytes) ≡ x → FirstPart bytes at q.code q.len q.place
      go rfc.no_more w = cc (ap next_of w)
      go rfc.cut_part w = cc (ap next_of w)
      go (rfc.next p l) w =
          let s = stands at (drop at bytes) p l w in
          let one : numbers.Portion = record { code = p.code; len = length p.value; place = p.place } in
          let same : one ≡ q = cc (ap next_of w) in
          let long : length p.value ≡ q.len = ap (λ (t : numbers.Portion). t.len) same in
          let place_is : p.place ≡ q.place = ap (λ (t : numbers.Portion). t.place) same in
          let from : l ≡ drop q.place bytes =
          s.left ∙ drop-drop s.skip at bytes ∙ ap (λ (k : ℕ). drop k bytes) (s.far ∙ place_is) in
          record {
            value = p.value;
            long = long;
            behind = omega (arith, s.far, s.room);
            within = omega (arith, s.far, s.room, s.within, length-drop at bytes);
            is =
                one_part at (drop at bytes) p l w
                ∙ (λ i. ahead (portion (same i).code p.value (place_is i)) (portions (place_is i) (from i)));
          }

-- what a step over the parts gives, by what a call answers there
module _ (bytes field : List ℕ) (at to : ℕ) {r : Option (Result numbers.Portion Refusal)} (g : Gives bytes at r field to) where
  gives : {x : Option (Result numbers.Portion Refusal)} → r ≡ x → Gives bytes at x field to
  gives e = subst (λ (x : Option (Result numbers.Portion Refusal)). Gives bytes at x field to) e g

  pub gives_none : r ≡ None → Ok None ≡ next_of (next_portion at (drop at bytes))
  gives_none e = sym (gives e).0

  pub gives_cut : {f : Refusal} → r ≡ Some (Err f) → Err f ≡ next_of (next_portion at (drop at bytes))
  gives_cut e = sym (gives e).0

  pub gives_part : {q : numbers.Portion} → r ≡ Some (Ok q)
      → (Ok (Some q) ≡ next_of (next_portion at (drop at bytes))) × (field ≡ bytes) × (to ≡ q.place)
  gives_part e = let h = gives e in (sym h.0, h.1, h.2)

-- the first of the parts that are left, by its numbers, and the rest of them behind its place
pub record FirstLeft (bytes : List ℕ) (at : ℕ) (ps : List Portion) (code len place : ℕ) : Type 0 where
  pub value : List ℕ
  pub rest : List Portion
  pub is : ps ≡ portion code value place ∷ rest
  pub long : length value ≡ len
  pub behind : at + 2 + len ≤ place
  pub within : place ≤ length bytes
  pub left : portions place (drop place bytes) ≡ whole rest

module _ (bytes : List ℕ) (at : ℕ) (ps : List Portion) (left : portions at (drop at bytes) ≡ whole ps) (r : Result (Option numbers.Portion) Refusal)
    (told : r ≡ next_of (next_portion at (drop at bytes))) where
  pub first_left : {q : numbers.Portion} → r ≡ Ok (Some q) → FirstLeft bytes at ps q.code q.len q.place
  first_left {q} e =
      let p = first_part bytes at told e in
      let b = ahead_is (portion q.code p.value q.place) (portions q.place (drop q.place bytes)) ps (sym p.is ∙ left) in
      record {
        value = p.value;
        rest = b.others;
        is = b.is;
        long = p.long;
        behind = p.behind;
        within = p.within;
        left = b.left;
      }

  -- no more parts are left, where no part is answered
  pub none_left : r ≡ Ok None → ps ≡ []
  none_left e = let same : whole ps ≡ whole [] = sym left ∙ ended_left bytes at told e in cc

-- nor is one that a step gives
pub gives_ok : (bytes field : List ℕ) (at to : ℕ) {ps : List Portion} → portions at (drop at bytes) ≡ whole ps
    → {r : Option (Result numbers.Portion Refusal)} → Gives bytes at r field to → (x : Result numbers.Portion Refusal) → r ≡ Some x → IsOk x
gives_ok bytes field at to left g (Ok p) e = refl
gives_ok bytes field at to left g (Err f) e =
    let cut = cut_left bytes at (gives_cut bytes field at to g e) refl in cc
