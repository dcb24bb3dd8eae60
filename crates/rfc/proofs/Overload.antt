-- What option 52 says, by its parts, and what is read of the fields that it names (`specs/Aggregate.antt`).
-- Assumes nothing.
use Prim.Native.Nat.{ℕ, ◌+◌, ◌-◌, ◌≤◌, ◌<◌}
use mathlib.Core.Path.{◌≡◌, refl, sym, ap, ◌∙◌}
use native.Mathlib.Omega.{arith}
use mathlib.Core.Bool.{Bool, true, false, cond, not, ◌&&◌}
use mathlib.Core.List.{List, [], ◌∷◌, ◌++◌}
use lib.ListN.{length, take, drop, get_or, length-take, drop_of_length-le}
use lib.Seq.{length-take-le, take-add, drop_at, get_or-take, get_or-drop}
use lib.Dec.{eqb}
use borrow.Author.Tests.{ne_eqb}
use Rattle.facts.specs.Ranges.{within}
use Rattle.facts.proofs.Ranges.{above, below, inside}
use Rattle.rfc.specs.Header.{Part, bytes_of, file_field, sname_field, magic_right, area_start}
use Rattle.rfc.specs.Portions.{Portion, whole, portions, parts_in, of_code, joined_value}
use Rattle.rfc.specs.Aggregate.{OptionFields, fields_of, overload_code, options_read, overloads, unclear_overload, overload}
use Rattle.rfc.specs.Aggregate.{names_file, names_sname, read_named, file_read, sname_read, aggregate}
use Rattle.rfc.proofs.Portions.{no_parts}
use Rattle.rfc.proofs.Sizes.{joined_none, joined_one}
use Rattle.rfc.proofs.Standing.{AllInPlace}
use Rattle.rfc.proofs.OfCode.{last_or}

-- what these parts of option 52 say, and 4 where they are unclear
abbrev pub said : List Portion → ℕ
said os = cond (unclear_overload os) 4 (get_or (joined_value os) 0 0)

pub said_none : (os : List Portion) → length os ≡ 0 → said os ≡ 0
unfolding unclear_overload
said_none [] e = ap (λ (v : List ℕ). get_or v 0 0) joined_none
said_none (p ∷ os) e = absurd (omega arith)

pub said_often : (os : List Portion) → 1 < length os → said os ≡ 4
unfolding unclear_overload
said_often [] h = absurd (omega arith)
said_often (p ∷ []) h = absurd (omega arith)
said_often (p ∷ q ∷ os) h = refl

pub said_long : (os : List Portion) → length os ≡ 1 → (length (joined_value os) ≡ 1 → ⊥) → said os ≡ 4
unfolding unclear_overload
said_long [] e n = absurd (omega arith)
said_long (p ∷ []) e n = rw (ne_eqb (length p.value) 1 (λ h. n (ap length (joined_one p) ∙ h)))
said_long (p ∷ q ∷ os) e n = absurd (omega arith)

-- one byte, which stands before the place
pub record OneByte (message : List ℕ) (os : List Portion) (place : ℕ) : Type 0 where
  pub some : 1 ≤ place
  pub inside : place ≤ length message
  pub is : let b : ℕ = get_or message (place - 1) 0 in said os ≡ cond (not (within 1 3 b)) 4 b

pub said_once : (message : List ℕ) (os : List Portion) (place : ℕ) → AllInPlace message os → length os ≡ 1 → length (joined_value os) ≡ 1
    → place ≡ last_or 0 os → OneByte message os place
unfolding unclear_overload
said_once message [] place h e l q = absurd (omega arith)
said_once message (p ∷ r ∷ os) place h e l q = absurd (omega arith)
said_once message (p ∷ []) place h e l q =
    let s = h.0 in
    let one : 1 ≡ length p.value = sym l ∙ ap length (joined_one p) in
    let front : List ℕ = drop (place - 1) message in
    let there : take 1 front ≡ p.value = (λ i. take (one i) (drop (q i - one i) message)) ∙ s.value in
    let at : place - 1 + 0 ≡ place - 1 = omega arith in
    let byte : get_or p.value 0 0 ≡ get_or message (place - 1) 0 =
    ap (λ (v : List ℕ). get_or v 0 0) (sym there) ∙ get_or-take 1 front 0 0 (omega arith) ∙ get_or-drop (place - 1) message 0 0
    ∙ ap (λ (k : ℕ). get_or message k 0) at in
    record {
      some = omega (arith, s.fits);
      inside = omega (arith, s.within);
      is = rw (joined_one p, ← one, byte) refl;
    }

module _ {message : List ℕ} {os : List Portion} {place : ℕ} (o : OneByte message os place) where
  pub byte_zero : get_or message (place - 1) 0 ≡ 0 → said os ≡ 4
  byte_zero e = rw (below 1 3 (get_or message (place - 1) 0) (omega arith)) at o.is

  pub byte_above : 3 < get_or message (place - 1) 0 → said os ≡ 4
  byte_above h = rw (above 1 3 (get_or message (place - 1) 0) h) at o.is

  pub byte_said : (get_or message (place - 1) 0 ≡ 0 → ⊥) → get_or message (place - 1) 0 ≤ 3 → said os ≡ get_or message (place - 1) 0
  byte_said n h = rw (inside 1 3 (get_or message (place - 1) 0) (omega arith) h) at o.is

-- it is clear exactly where it says no more than 3
pub said_unclear : (os : List Portion) → 3 < said os → unclear_overload os ≡ true
unfolding unclear_overload
said_unclear [] h = absurd (omega (arith, said_none [] refl))
said_unclear (p ∷ q ∷ os) h = refl
said_unclear (p ∷ []) h = go (eqb (length p.value) 1) (within 1 3 (get_or p.value 0 0)) refl h
  where
    go : (t u : Bool) → within 1 3 (get_or p.value 0 0) ≡ u → 3 < cond (not (t && u)) 4 (get_or (joined_value (p ∷ [])) 0 0) → not (t && u) ≡ true
    go false u w k = refl
    go true false w k = refl
    go true true w k =
        let most : 3 < get_or p.value 0 0 = rw (joined_one p) at k in
        absurd (let z : ◌≡◌ {A = ℕ} 0 1 = cc (above 1 3 (get_or p.value 0 0) most) in omega arith)

pub said_clear : (os : List Portion) → said os ≤ 3 → (unclear_overload os ≡ false) × (said os ≡ get_or (joined_value os) 0 0)
said_clear os h = go (unclear_overload os) h
  where
    go : (t : Bool) → cond t 4 (get_or (joined_value os) 0 0) ≤ 3 → (t ≡ false) × (cond t 4 (get_or (joined_value os) 0 0) ≡ get_or (joined_value os) 0 0)
    go true k = absurd (omega arith)
    go false k = (refl, refl)

-- so of the options field
pub overloads_are : (f : OptionFields) → overloads f ≡ of_code overload_code (parts_in (options_read f))
unfolding overloads
overloads_are f = refl

pub overload_is : (f : OptionFields) → overload f ≡ get_or (joined_value (overloads f)) 0 0
unfolding overload
overload_is f = refl

-- which is what stands behind the magic
pub options_right : (message : List ℕ) → magic_right message ≡ true
    → options_read (fields_of message) ≡ portions area_start (drop area_start message)
unfolding options_read fields_of
options_right message e = rw e refl

pub options_wrong : (message : List ℕ) → magic_right message ≡ false → options_read (fields_of message) ≡ whole []
unfolding options_read fields_of
options_wrong message e = rw e (no_parts area_start)

-- file and sname, by what is named
pub file-read : (message : List ℕ) → let f = fields_of message in
    file_read f ≡ read_named (names_file (overload f)) file_field.start (bytes_of file_field message)
unfolding file_read fields_of
file-read message = refl

pub sname-read : (message : List ℕ) → let f = fields_of message in
    sname_read f ≡ read_named (names_sname (overload f)) sname_field.start (bytes_of sname_field message)
unfolding sname_read fields_of
sname-read message = refl

-- a field that is named is what stands from its place on, up to its end; another ends where it begins
pub named_read : (p : Part) (message : List ℕ) (named : Bool) → p.start ≤ length message
    → portions p.start (drop p.start (take (cond named (p.start + p.len) p.start) message))
    ≡ read_named named p.start (bytes_of p message)
unfolding read_named
named_read p message true h =
    let front : List ℕ = take p.start message in
    ap (portions p.start)
    (ap (drop p.start) (take-add p.start p.len message) ∙ drop_at front _ p.start (length-take-le p.start message h))
named_read p message false h =
    let short : length (take p.start message) ≤ p.start = omega (arith, length-take p.start message) in
    ap (portions p.start) (drop_of_length-le (take p.start message) short) ∙ no_parts p.start

-- all parts are those of the three fields
pub aggregate_is : (f : OptionFields) → aggregate f ≡ parts_in (options_read f) ++ parts_in (file_read f) ++ parts_in (sname_read f)
unfolding aggregate
aggregate_is f = refl
