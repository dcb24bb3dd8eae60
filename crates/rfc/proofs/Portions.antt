-- The laws of `specs/Portions.antt`: what stands first in a field, case by case, by the bytes and at a place; that a whole part stands in the
-- bytes; and that a field is what stands first, and what is read behind it; cut, or its parts.
-- Assumes nothing.
use mathlib.Core.Path.{◌≡◌, refl, ap, ◌∙◌, subst}
use Prim.Native.Nat.{ℕ, suc, zero, ◌+◌, ◌-◌, ◌≤◌, ◌<◌}
use native.Mathlib.Omega.{arith}
use native.Mathlib.Nat.{le_refl}
use mathlib.Core.List.{List, [], ◌∷◌}
use mathlib.Core.Bool.{Bool, true, false, cond}
use lib.ListN.{length, take, drop, get_or, length-drop, drop_of_length-le}
use lib.Seq.{drop-drop, length-take-le}
use lib.Dec.{eqb, leb}
use borrow.Author.Tests.{eq-eqb, ne_eqb, eqb-false, le-leb, lt-leb, leb-true}
use Rattle.rfc.specs.Numbers.{pad_code, end_code}
use Rattle.rfc.specs.Portions.{Portion, portion, Next, no_more, cut_part, next, behind_code, next_portion, Portions, cut_field, whole, ahead, goes_on, portions_in, portions, is_cut, parts_in}
use Rattle.rfc.specs.Lists.{Bytes}
use Rattle.rfc.proofs.Places.{drop_one, drop_two, drop_last, rest_length}

-- by the first bytes
pub next_none : (at : ℕ) → next_portion at [] ≡ no_more
unfolding next_portion
next_none at = refl

pub next_pad : (at b : ℕ) (rest : List ℕ) → b ≡ pad_code → next_portion at (b ∷ rest) ≡ next_portion (at + 1) rest
unfolding next_portion
next_pad at b rest e = rw (eq-eqb b pad_code e) refl

pub next_end : (at b : ℕ) (rest : List ℕ) → b ≡ end_code → next_portion at (b ∷ rest) ≡ no_more
unfolding next_portion
next_end at b rest e = simp (ne_eqb b pad_code (λ z. omega arith), eq-eqb b end_code e)

module _ (at b : ℕ) (z : b ≡ pad_code → ⊥) (e : b ≡ end_code → ⊥) where
  next_code : (rest : List ℕ) → next_portion at (b ∷ rest) ≡ behind_code b (at + 1) rest
  unfolding next_portion
  next_code rest = simp (ne_eqb b pad_code z, ne_eqb b end_code e)

  pub next_no_length : next_portion at (b ∷ []) ≡ cut_part
  unfolding behind_code
  next_no_length = next_code []

  pub next_no_value : (n : ℕ) (rest : List ℕ) → length rest < n → next_portion at (b ∷ n ∷ rest) ≡ cut_part
  unfolding behind_code
  next_no_value n rest h = next_code (n ∷ rest) ∙ rw (lt-leb n (length rest) h) refl

  pub next_whole : (n : ℕ) (rest : List ℕ) → n ≤ length rest
      → next_portion at (b ∷ n ∷ rest) ≡ next (portion b (take n rest) (at + 2 + n)) (drop n rest)
  unfolding behind_code
  next_whole n rest h =
      let to : at + 1 + 1 + n ≡ at + 2 + n = omega arith in
      next_code (n ∷ rest) ∙ rw (le-leb n (length rest) h) (ap (λ (m : ℕ). next (portion b (take n rest) m) (drop n rest)) to)

-- at a place
module _ (bytes : List ℕ) (i : ℕ) where
  pub none-at : length bytes ≤ i → next_portion i (drop i bytes) ≡ no_more
  none-at h = rw (drop_of_length-le bytes h) (next_none i)

  pub pad_at : i < length bytes → get_or bytes i 0 ≡ pad_code → next_portion i (drop i bytes) ≡ next_portion (i + 1) (drop (i + 1) bytes)
  pad_at h z = ap (next_portion i) (drop_one bytes i h) ∙ next_pad i _ _ z

  pub end_at : i < length bytes → get_or bytes i 0 ≡ end_code → next_portion i (drop i bytes) ≡ no_more
  end_at h e = ap (next_portion i) (drop_one bytes i h) ∙ next_end i _ _ e

  module _ (z : get_or bytes i 0 ≡ pad_code → ⊥) (e : get_or bytes i 0 ≡ end_code → ⊥) where
    pub no_length_at : i < length bytes → length bytes - i < 2 → next_portion i (drop i bytes) ≡ cut_part
    no_length_at h g = ap (next_portion i) (drop_last bytes i h g) ∙ next_no_length i _ z e

    pub no_value_at : i + 2 ≤ length bytes → length bytes - (i + 2) < get_or bytes (i + 1) 0 → next_portion i (drop i bytes) ≡ cut_part
    no_value_at g k = ap (next_portion i) (drop_two bytes i g) ∙ next_no_value i _ z e _ _ (omega (arith, rest_length bytes i))

    pub whole_at : i + 2 + get_or bytes (i + 1) 0 ≤ length bytes
        → next_portion i (drop i bytes)
        ≡ next (portion (get_or bytes i 0) (take (get_or bytes (i + 1) 0) (drop (i + 2) bytes)) (i + 2 + get_or bytes (i + 1) 0))
        (drop (i + 2 + get_or bytes (i + 1) 0) bytes)
    whole_at g =
        let n : ℕ = get_or bytes (i + 1) 0 in
        ap (next_portion i) (drop_two bytes i (omega arith)) ∙ next_whole i _ z e _ _ (omega (arith, rest_length bytes i))
        ∙ ap (next (portion (get_or bytes i 0) (take n (drop (i + 2) bytes)) (i + 2 + n))) (drop-drop n (i + 2) bytes)

-- a whole part that is found stands in the bytes: its code is one of them, neither Pad nor End, its value stands before its place, and what is
-- left is what stands behind it
pub record Stands (at : ℕ) (bytes : List ℕ) (p : Portion) (rest : List ℕ) : Type 0 where
  pub skip : ℕ
  pub far : at + skip ≡ p.place
  pub room : 2 + length p.value ≤ skip
  pub within : skip ≤ length bytes
  pub value : take (length p.value) (drop (skip - length p.value) bytes) ≡ p.value
  pub left : rest ≡ drop skip bytes
  pub no_pad : p.code ≡ pad_code → ⊥
  pub no_end : p.code ≡ end_code → ⊥
  pub byte : Bytes bytes → p.code < 256

abbrev StandsIn : ℕ → List ℕ → Next → Type 0
StandsIn at bytes no_more = Unit {0}
StandsIn at bytes cut_part = Unit {0}
StandsIn at bytes (next p rest) = Stands at bytes p rest

behind_one : (at b : ℕ) (bytes : List ℕ) (x : Next) → StandsIn (at + 1) bytes x → StandsIn at (b ∷ bytes) x
behind_one at b bytes no_more s = tt
behind_one at b bytes cut_part s = tt
behind_one at b bytes (next p rest) s =
    let m : suc s.skip - length p.value ≡ suc (s.skip - length p.value) = omega (arith, s.room) in
    record {
      skip = suc s.skip;
      far = omega (arith, s.far);
      room = omega (arith, s.room);
      within = omega (arith, s.within);
      value = ap (λ (j : ℕ). take (length p.value) (drop j (b ∷ bytes))) m ∙ s.value;
      left = s.left;
      no_pad = s.no_pad;
      no_end = s.no_end;
      byte = λ h. s.byte h.1;
    }

stands_in : (at : ℕ) (bytes : List ℕ) → StandsIn at bytes (next_portion at bytes)
unfolding next_portion behind_code
stands_in at [] = tt
stands_in at (b ∷ bytes) = go (eqb b pad_code) refl (eqb b end_code) refl (stands_in (at + 1) bytes)
  where
    part : (l : List ℕ) → (b ≡ pad_code → ⊥) → (b ≡ end_code → ⊥) → StandsIn at (b ∷ l) (behind_code b (at + 1) l)
    part [] z e = tt
    part (n ∷ l) z e = by (leb n (length l)) refl
      where
        by : (t : Bool) → leb n (length l) ≡ t
            → StandsIn at (b ∷ n ∷ l) (cond t (next (portion b (take n l) (at + 1 + 1 + n)) (drop n l)) cut_part)
        by true w =
            let h : n ≤ length l = leb-true n (length l) w in
            let len : length (take n l) ≡ n = length-take-le n l h in
            let two : suc (suc n) - length (take n l) ≡ 2 = omega arith in
            record {
              skip = suc (suc n);
              far = omega arith;
              room = omega arith;
              within = omega arith;
              value = (λ j. take (len j) (drop (two j) (b ∷ n ∷ l)));
              left = refl;
              no_pad = z;
              no_end = e;
              byte = λ g. g.0;
            }
        by false w = tt

    go : (t : Bool) → eqb b pad_code ≡ t → (u : Bool) → eqb b end_code ≡ u → StandsIn (at + 1) bytes (next_portion (at + 1) bytes)
        → StandsIn at (b ∷ bytes) (cond t (next_portion (at + 1) bytes) (cond u no_more (behind_code b (at + 1) bytes)))
    go true e u w s = behind_one at b bytes (next_portion (at + 1) bytes) s
    go false e true w s = tt
    go false e false w s = part bytes (eqb-false b pad_code e) (eqb-false b end_code w)

pub stands : (at : ℕ) (bytes : List ℕ) (p : Portion) (rest : List ℕ) → next_portion at bytes ≡ next p rest → Stands at bytes p rest
stands at bytes p rest e = subst (StandsIn at bytes) e (stands_in at bytes)

-- the bytes behind a part that stands first are fewer
fewer : {at : ℕ} {bytes : List ℕ} {p : Portion} {rest : List ℕ} → Stands at bytes p rest → length rest + 2 ≤ length bytes
fewer {bytes = bytes} s =
    let left = ap length s.left ∙ length-drop s.skip bytes in
    omega (arith, s.room, s.within)

-- looking at more parts changes nothing, where there is enough
enough : (k m at : ℕ) (rest : List ℕ) → length rest ≤ k → length rest ≤ m → portions_in k at rest ≡ portions_in m at rest
unfolding portions_in goes_on next_portion
enough zero zero at rest h g = refl
enough zero (suc m) at [] h g = refl
enough zero (suc m) at (b ∷ rest) h g = absurd (omega arith)
enough (suc k) zero at [] h g = refl
enough (suc k) zero at (b ∷ rest) h g = absurd (omega arith)
enough (suc k) (suc m) at rest h g = go (next_portion at rest) (stands_in at rest) (enough k m)
  where
    go : (x : Next) → StandsIn at rest x
        → ((to : ℕ) (l : List ℕ) → length l ≤ k → length l ≤ m → portions_in k to l ≡ portions_in m to l)
        → goes_on x (portions_in k) ≡ goes_on x (portions_in m)
    go no_more s r = refl
    go cut_part s r = refl
    go (next p l) s r = ap (ahead p) (r p.place l (omega (arith, fewer s)) (omega (arith, fewer s)))

-- a field is what stands first in it, and what is read behind that
pub goes-on : (at : ℕ) (field : List ℕ) → portions at field ≡ goes_on (next_portion at field) portions
unfolding portions portions_in goes_on next_portion
goes-on at [] = refl
goes-on at (b ∷ rest) = go (next_portion at (b ∷ rest)) (stands_in at (b ∷ rest))
  where
    go : (x : Next) → StandsIn at (b ∷ rest) x → goes_on x (portions_in (length rest)) ≡ goes_on x portions
    go no_more s = refl
    go cut_part s = refl
    go (next p l) s = ap (ahead p) (enough (length rest) (length l) p.place l (omega (arith, fewer s)) (le_refl _))

-- so is it by what stands first
pub ended : (at : ℕ) (field : List ℕ) → next_portion at field ≡ no_more → portions at field ≡ whole []
unfolding goes_on
ended at field e = goes-on at field ∙ ap (λ (x : Next). goes_on x portions) e

pub is-cut : (at : ℕ) (field : List ℕ) → next_portion at field ≡ cut_part → portions at field ≡ cut_field
unfolding goes_on
is-cut at field e = goes-on at field ∙ ap (λ (x : Next). goes_on x portions) e

pub one_part : (at : ℕ) (field : List ℕ) (p : Portion) (rest : List ℕ) → next_portion at field ≡ next p rest
    → portions at field ≡ ahead p (portions p.place rest)
unfolding goes_on
one_part at field p rest e = goes-on at field ∙ ap (λ (x : Next). goes_on x portions) e

-- a field without bytes has no part
pub no_parts : (at : ℕ) → portions at [] ≡ whole []
no_parts at = ended at [] (next_none at)

-- a part in front of a field that is cut, and of one that is not
pub ahead_cut : (p : Portion) → ahead p cut_field ≡ cut_field
unfolding ahead
ahead_cut p = refl

pub ahead_whole : (p : Portion) (ps : List Portion) → ahead p (whole ps) ≡ whole (p ∷ ps)
unfolding ahead
ahead_whole p ps = refl

-- and back
pub record Behind (p : Portion) (x : Portions) (ps : List Portion) : Type 0 where
  pub others : List Portion
  pub is : ps ≡ p ∷ others
  pub left : x ≡ whole others

pub ahead_is : (p : Portion) (x : Portions) (ps : List Portion) → ahead p x ≡ whole ps → Behind p x ps
unfolding ahead
ahead_is p cut_field ps e = absurd (let z : ◌≡◌ {A = ℕ} 0 1 = cc in omega arith)
ahead_is p (whole qs) ps e = record { others = qs; is = cc; left = refl }

-- a field is cut, or is its parts
pub cut-field : is_cut cut_field ≡ true
unfolding is_cut
cut-field = refl

pub cut_whole : (ps : List Portion) → is_cut (whole ps) ≡ false
unfolding is_cut
cut_whole ps = refl

pub parts_whole : {x : Portions} {ps : List Portion} → x ≡ whole ps → parts_in x ≡ ps
unfolding parts_in
parts_whole e = ap parts_in e

pub uncut : (x : Portions) → is_cut x ≡ false → x ≡ whole (parts_in x)
unfolding is_cut parts_in
uncut cut_field e = cc
uncut (whole ps) e = refl
