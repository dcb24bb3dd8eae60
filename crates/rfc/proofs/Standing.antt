-- Each part of a message that is read stands in the message: its value is the bytes before its place, and its code is one of them.
-- Assumes nothing.
use mathlib.Core.Path.{◌≡◌, refl, sym, ap, subst, ◌∙◌}
use Prim.Native.Nat.{ℕ, ◌+◌, ◌-◌, ◌≤◌, ◌<◌}
use native.Mathlib.Omega.{arith}
use mathlib.Core.List.{List, [], ◌∷◌, ◌++◌, append-nil}
use mathlib.Core.Bool.{Bool, true, false, cond}
use lib.ListN.{length, take, drop, length-drop, length-append, take-append-drop}
use lib.Seq.{take-append-le, drop-append-le, drop-drop}
use lib.Dec.{eqb}
use Rattle.rfc.specs.Numbers.{pad_code, end_code}
use Rattle.rfc.specs.Header.{Part, bytes_of, file_field, sname_field, magic_right, area_start}
use Rattle.rfc.specs.Lists.{Bytes}
use Rattle.rfc.specs.Portions.{Portion, Portions, cut_field, whole, portions, parts_in, of_code}
use Rattle.rfc.specs.Aggregate.{OptionFields, fields_of, options_read, names_file, names_sname, overload, read_named, file_read, sname_read}
use Rattle.rfc.specs.Aggregate.{overload_code, overloads, aggregate}
use Rattle.rfc.proofs.Bytes.{bytes_drop, bytes_front}
use Rattle.rfc.proofs.Portions.{Stands, no_parts}
use Rattle.rfc.proofs.Sizes.{begins}

pub record InPlace (message : List ℕ) (p : Portion) : Type 0 where
  pub fits : length p.value ≤ p.place
  pub within : p.place ≤ length message
  pub value : take (length p.value) (drop (p.place - length p.value) message) ≡ p.value
  pub no_pad : p.code ≡ pad_code → ⊥
  pub no_end : p.code ≡ end_code → ⊥
  pub byte : Bytes message → p.code < 256

abbrev pub AllInPlace : List ℕ → List Portion → Type 0
AllInPlace message [] = Unit {0}
AllInPlace message (p ∷ ps) = InPlace message p × AllInPlace message ps

both_in_place : (message : List ℕ) (ps qs : List Portion) → AllInPlace message ps → AllInPlace message qs → AllInPlace message (ps ++ qs)
both_in_place message [] qs h g = g
both_in_place message (p ∷ ps) qs h g = (h.0, both_in_place message ps qs h.1 g)

-- those of one code do too
pub code_in_place : (message : List ℕ) (code : ℕ) (ps : List Portion) → AllInPlace message ps → AllInPlace message (of_code code ps)
unfolding of_code
code_in_place message code [] h = tt
code_in_place message code (p ∷ ps) h = go (eqb p.code code) (code_in_place message code ps h.1)
  where
    go : (t : Bool) → AllInPlace message (of_code code ps) → AllInPlace message (cond t (p ∷ of_code code ps) (of_code code ps))
    go true g = (h.0, g)
    go false g = g

-- a part of bytes that stand at a place of the message, with others behind them
module _ (message : List ℕ) (at : ℕ) (field tail : List ℕ) (there : drop at message ≡ field ++ tail)
    {p : Portion} {rest : List ℕ} (s : Stands at field p rest) where
  behind : (k : ℕ) → k ≤ s.skip → drop (at + k) message ≡ drop k field ++ tail
  behind k h = sym (drop-drop k at message) ∙ ap (drop k) there ∙ drop-append-le k field tail (omega (arith, s.within))

  in_place : InPlace message p
  in_place =
      let len : ℕ = length p.value in
      let k : ℕ = s.skip - len in
      let to : p.place - len ≡ at + k = omega (arith, s.far, s.room) in
      let h : len ≤ length (drop k field) = omega (arith, length-drop k field, s.room, s.within) in
      record {
        fits = omega (arith, s.far, s.room);
        within = omega (arith, s.far, s.room, s.within, length-drop at message, ap length there, length-append field tail);
        value =
            ap (λ (j : ℕ). take len (drop j message)) to ∙ ap (take len) (behind k (omega arith))
            ∙ take-append-le len (drop k field) tail h ∙ s.value;
        no_pad = s.no_pad;
        no_end = s.no_end;
        byte = λ b. s.byte (bytes_front field tail (subst Bytes there (bytes_drop at message b)));
      }

  -- so do the bytes that are left
  left_there : drop p.place message ≡ rest ++ tail
  left_there = ap (λ (j : ℕ). drop j message) (sym s.far) ∙ behind s.skip (omega arith) ∙ ap (λ (l : List ℕ). l ++ tail) (sym s.left)

pub whole_in_place : (message : List ℕ) (at : ℕ) (field tail : List ℕ) (ps : List Portion) → drop at message ≡ field ++ tail
    → portions at field ≡ whole ps → AllInPlace message ps
whole_in_place message at field tail [] h e = tt
whole_in_place message at field tail (p ∷ ps) h e =
    let b = begins at field p ps e in (
      in_place message at field tail h b.first,
      whole_in_place message p.place b.rest tail ps (left_there message at field tail h b.first) b.others,
    )

-- the parts of a field, whether it is whole, cut or not read
field_in_place : (message : List ℕ) (at : ℕ) (field tail : List ℕ) → drop at message ≡ field ++ tail
    → AllInPlace message (parts_in (portions at field))
unfolding parts_in
field_in_place message at field tail h = go (portions at field) refl
  where
    go : (x : Portions) → portions at field ≡ x → AllInPlace message (parts_in x)
    go cut_field e = tt
    go (whole ps) e = whole_in_place message at field tail ps h e

named_in_place : (message : List ℕ) (named : Bool) (f : Part) → AllInPlace message (parts_in (read_named named f.start (bytes_of f message)))
unfolding parts_in read_named
named_in_place message true f = field_in_place message f.start _ (drop f.len (drop f.start message)) (sym (take-append-drop f.len _))
named_in_place message false f = tt

options_in_place : (message : List ℕ) (right : Bool) → AllInPlace message (parts_in (portions area_start (cond right (drop area_start message) [])))
unfolding parts_in
options_in_place message true = field_in_place message area_start _ [] (sym (append-nil _))
options_in_place message false = rw (no_parts area_start) tt

-- all parts, and so those of option 52
pub all_in_place : (message : List ℕ) → AllInPlace message (aggregate (fields_of message))
unfolding aggregate fields_of options_read file_read sname_read
all_in_place message =
    let f : OptionFields = fields_of message in
    both_in_place message (parts_in (options_read f) ++ parts_in (file_read f)) (parts_in (sname_read f))
    (both_in_place message (parts_in (options_read f)) (parts_in (file_read f))
    (options_in_place message (magic_right message)) (named_in_place message (names_file (overload f)) file_field))
    (named_in_place message (names_sname (overload f)) sname_field)

pub overloads_in_place : (message : List ℕ) → AllInPlace message (overloads (fields_of message))
unfolding overloads options_read fields_of
overloads_in_place message = code_in_place message overload_code _ (options_in_place message (magic_right message))
