-- The parts of one code, part by part, and what is found of them. In a message there are none of Pad and End; what is answered for a code has
-- this code and their value, and of one part it is shown in place; and all parts are no longer than the message.
-- Assumes nothing.
use mathlib.Core.Path.{◌≡◌, refl, sym, ap, ◌∙◌}
use Prim.Native.Nat.{ℕ, suc, ◌+◌, ◌*◌, ◌≤◌, ◌<◌}
use native.Mathlib.Omega.{arith}
use mathlib.Core.List.{List, [], ◌∷◌, ◌++◌, append-nil}
use mathlib.Core.Bool.{Bool, true, false, cond}
use lib.ListN.{length, drop, length-append, length-take, length-drop}
use borrow.Author.Tests.{eq-eqb, ne_eqb}
use native.Mathlib.Decide.{ℕ_discrete}
use Rattle.rfc.specs.Numbers.{given, needs, least_message, no_code}
use Rattle.rfc.specs.Header.{sname_field, file_field, magic_right, area_start}
use Rattle.rfc.specs.Walk.{stop, option, out, room_for}
use Rattle.rfc.specs.Portions.{Portion, Portions, cut_field, whole, portions, parts_in, of_code, joined_value}
use Rattle.rfc.specs.Aggregate.{OptionFields, fields_of, options_read, overload, names_file, names_sname, read_named, file_read, sname_read}
use Rattle.rfc.specs.Aggregate.{aggregate, behind_last, option_from, option_of}
use Rattle.rfc.proofs.Numbers.{a_code}
use Rattle.rfc.proofs.Walk.{stop_answered, answered, room_given}
use Rattle.rfc.proofs.Sizes.{joined_none, joined_one, joined_both, fits_field, of_code_fits}
use Rattle.rfc.proofs.Standing.{InPlace, AllInPlace, code_in_place, all_in_place}

-- the parts of a code, part by part
pub of_none : (code : ℕ) → of_code code [] ≡ []
unfolding of_code
of_none code = refl

pub of_first : (code : ℕ) (p : Portion) (ps : List Portion) → p.code ≡ code → of_code code (p ∷ ps) ≡ p ∷ of_code code ps
unfolding of_code
of_first code p ps e = rw (eq-eqb p.code code e) refl

pub of_other : (code : ℕ) (p : Portion) (ps : List Portion) → (p.code ≡ code → ⊥) → of_code code (p ∷ ps) ≡ of_code code ps
unfolding of_code
of_other code p ps e = rw (ne_eqb p.code code e) refl

-- those of some parts, and then those of others
pub of_both : (code : ℕ) (ps qs : List Portion) → of_code code (ps ++ qs) ≡ of_code code ps ++ of_code code qs
of_both code [] qs = ap (λ (l : List Portion). l ++ of_code code qs) (sym (of_none code))
of_both code (p ∷ ps) qs = go (ℕ_discrete p.code code) (of_both code ps qs)
  where
    go : Dec (p.code ≡ code) → of_code code (ps ++ qs) ≡ of_code code ps ++ of_code code qs
        → of_code code (p ∷ ps ++ qs) ≡ of_code code (p ∷ ps) ++ of_code code qs
    go (yes e) r = rw (of_first code p (ps ++ qs) e, of_first code p ps e) (ap (λ (l : List Portion). p ∷ l) r)
    go (no e) r = rw (of_other code p (ps ++ qs) e, of_other code p ps e) r

-- one part more is the last of its code, and of no other
pub of_last : (code : ℕ) (ps : List Portion) (p : Portion) → p.code ≡ code → of_code code (ps ++ p ∷ []) ≡ of_code code ps ++ p ∷ []
of_last code ps p e =
    of_both code ps (p ∷ []) ∙ ap (λ (l : List Portion). of_code code ps ++ l) (of_first code p [] e ∙ ap (λ (l : List Portion). p ∷ l) (of_none code))

pub of_others : (code : ℕ) (ps : List Portion) (p : Portion) → (p.code ≡ code → ⊥) → of_code code (ps ++ p ∷ []) ≡ of_code code ps
of_others code ps p e =
    of_both code ps (p ∷ []) ∙ ap (λ (l : List Portion). of_code code ps ++ l) (of_other code p [] e ∙ of_none code) ∙ append-nil _

-- the place behind the last of some parts, or another, where there is none
abbrev pub last_or : ℕ → List Portion → ℕ
last_or place [] = place
last_or place (p ∷ ps) = last_or p.place ps

pub behind-last : (p : Portion) (ps : List Portion) → behind_last p ps ≡ last_or p.place ps
unfolding behind_last
behind-last p [] = refl
behind-last p (q ∷ qs) = behind-last q qs

pub behind_more : (p : Portion) (ps : List Portion) (q : Portion) → behind_last p (ps ++ q ∷ []) ≡ q.place
unfolding behind_last
behind_more p [] q = refl
behind_more p (x ∷ ps) q = behind_more x ps q

pub last_within : {message : List ℕ} (p : Portion) (ps : List Portion) → AllInPlace message (p ∷ ps) → last_or p.place ps ≤ length message
last_within p [] h = h.0.within
last_within p (q ∷ qs) h = last_within q qs h.1

-- what is found of a code, by its parts
pub option_none : (code : ℕ) → option_from code [] ≡ stop out 0
unfolding option_from
option_none code = refl

pub option_some : (code : ℕ) (p : Portion) (ps : List Portion)
    → option_from code (p ∷ ps) ≡ option code (joined_value (p ∷ ps)) (length (p ∷ ps)) (behind_last p ps)
unfolding option_from
option_some code p ps = refl

pub option-of : (f : OptionFields) (code room : ℕ) → option_of f code room ≡ room_for room (option_from code (of_code code (aggregate f)))
unfolding option_of
option-of f code room = refl

-- no part has the code of a Pad or an End
none_in : (message : List ℕ) (code : ℕ) → no_code code ≡ true → (ps : List Portion) → AllInPlace message ps → of_code code ps ≡ []
none_in message code none [] h = of_none code
none_in message code none (p ∷ ps) h = of_other code p ps other ∙ none_in message code none ps h.1
  where
    other : p.code ≡ code → ⊥
    other s =
        let z : true ≡ false = sym none ∙ ap no_code (sym s) ∙ a_code p.code h.0.no_pad h.0.no_end in
        let n : ◌≡◌ {A = ℕ} 0 1 = cc in
        omega arith

module _ (message : List ℕ) (code : ℕ) where
  pub none_of : no_code code ≡ true → of_code code (aggregate (fields_of message)) ≡ []
  none_of none = none_in message code none (aggregate (fields_of message)) (all_in_place message)

  -- what is answered for a code is made of its parts
  module _ (room other : ℕ) (v : List ℕ) (n at : ℕ) (e : option_of (fields_of message) code room ≡ given (option other v n at)) where
    is_found : option_from code (of_code code (aggregate (fields_of message))) ≡ option other v n at
    unfolding option_of
    is_found = room_given room _ _ e

    -- it has this code, which is neither Pad nor End
    pub code_given : (code ≡ other) × (no_code code ≡ false)
    unfolding option_from
    code_given = (go (of_code code (aggregate (fields_of message))) is_found, is (no_code code) refl)
      where
        go : (ps : List Portion) → option_from code ps ≡ option other v n at → code ≡ other
        go [] w = cc
        go (p ∷ ps) w = cc

        is : (t : Bool) → no_code code ≡ t → t ≡ false
        is true w = cc (is_found, ap (option_from code) (none_of w))
        is false w = refl

    -- its value is that of all its parts
    pub value_given : joined_value (of_code code (aggregate (fields_of message))) ≡ v
    unfolding option_from
    value_given = go (of_code code (aggregate (fields_of message))) is_found
      where
        go : (ps : List Portion) → option_from code ps ≡ option other v n at → joined_value ps ≡ v
        go [] w = absurd (let z : ◌≡◌ {A = ℕ} 0 1 = cc in omega arith)
        go (p ∷ ps) w = cc

    -- and of one part it is the value of a part that stands in the message, before the option's place
    pub one_in_place : n ≡ 1 → (p : Portion) × InPlace message p × (p.value ≡ v) × (p.place ≡ at)
    unfolding option_from behind_last
    one_in_place one = go (of_code code (aggregate (fields_of message))) is_found (code_in_place message code _ (all_in_place message))
      where
        go : (ps : List Portion) → option_from code ps ≡ option other v n at → AllInPlace message ps
            → (p : Portion) × InPlace message p × (p.value ≡ v) × (p.place ≡ at)
        go [] w h = absurd (let z : ◌≡◌ {A = ℕ} 0 1 = cc in omega arith)
        go (p ∷ []) w h =
            let value : joined_value (p ∷ []) ≡ p.value = joined_one p in (p, h.0, cc, cc)
        go (p ∷ q ∷ ps) w h = absurd (let z : suc (suc (length ps)) ≡ n = cc in omega arith)

-- where the value fits, 5 is not given
pub no_needs : (f : OptionFields) (code room n : ℕ) → length (joined_value (of_code code (aggregate f))) ≤ room → option_of f code room ≡ needs n → ⊥
unfolding option_of option_from
no_needs f code room n h e = go (of_code code (aggregate f)) h e
  where
    go : (ps : List Portion) → length (joined_value ps) ≤ room → room_for room (option_from code ps) ≡ needs n → ⊥
    go [] g w = let z : ◌≡◌ {A = ℕ} 0 1 = cc (stop_answered room out 0) in omega arith
    go (p ∷ ps) g w = let z : ◌≡◌ {A = ℕ} 0 1 = cc (answered room code (joined_value (p ∷ ps)) (length (p ∷ ps)) (behind_last p ps) g) in omega arith

-- all parts of a field, each with two bytes before its value, are no longer than it
parts_read : (named : Bool) (at : ℕ) (field : List ℕ)
    → 2 * length (parts_in (read_named named at field)) + length (joined_value (parts_in (read_named named at field))) ≤ length field
unfolding read_named parts_in
parts_read true at field = go (portions at field) refl
  where
    go : (x : Portions) → portions at field ≡ x → 2 * length (parts_in x) + length (joined_value (parts_in x)) ≤ length field
    go cut_field e = omega (arith, ap length joined_none)
    go (whole ps) e = fits_field at field ps e
parts_read false at field = omega (arith, ap length joined_none)

-- and all of a message no longer than the message
pub parts_fit : (message : List ℕ) → least_message ≤ length message
    → 2 * length (aggregate (fields_of message)) + length (joined_value (aggregate (fields_of message))) < length message
unfolding aggregate options_read file_read sname_read read_named fields_of
parts_fit message h =
    let f : OptionFields = fields_of message in
    let o : List Portion = parts_in (options_read f) in
    let i : List Portion = parts_in (file_read f) in
    let s : List Portion = parts_in (sname_read f) in
    omega (
      arith,
      joined_both (o ++ i) s,
      joined_both o i,
      length-append (o ++ i) s,
      length-append o i,
      parts_read true area_start f.options,
      parts_read (names_file (overload f)) file_field.start f.file,
      parts_read (names_sname (overload f)) sname_field.start f.sname,
      behind (magic_right message),
      length-take file_field.len (drop file_field.start message),
      length-take sname_field.len (drop sname_field.start message),
    )
  where
    behind : (t : Bool) → length (cond t (drop area_start message) []) + area_start ≤ length message
    behind true = omega (arith, length-drop area_start message)
    behind false = omega arith

pub joined_fits : (message : List ℕ) (code : ℕ) → least_message ≤ length message
    → length (joined_value (of_code code (aggregate (fields_of message)))) ≤ length message
joined_fits message code h = omega (arith, (of_code_fits code (aggregate (fields_of message))).1, parts_fit message h)
