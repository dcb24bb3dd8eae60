-- What is answered for option 52, check by check, by what was counted and looked at.
-- Assumes nothing.
use Prim.Native.Nat.{ℕ}
use mathlib.Core.Path.{◌≡◌, refl, sym, ap, ◌∙◌}
use mathlib.Core.Bool.{Bool, true, false, cond, ◌||◌}
use mathlib.Core.List.{List}
use Rattle.std.specs.Prelude.{Ok, Err}
use Rattle.rfc.specs.Numbers.{given}
use Rattle.rfc.specs.Header.{bytes_of, file_field, sname_field, message_checks}
use Rattle.rfc.specs.Portions.{Portions, is_cut, parts_in}
use Rattle.rfc.specs.Aggregate.{OptionFields, fields_of, overload_code, options_read, overloads, unclear_overload, overload, overload_of, names_file, names_sname, read_named, file_read, sname_read}
use Rattle.rfc.proofs.Numbers.{Clear}
use Rattle.rfc.proofs.Header.{message_read}
use Rattle.rfc.proofs.Overload.{file-read, sname-read}
use Rattle.rfc.proofs.Aggregate.{not_read, options_cut, unclear, field_cut, all_read}
use Rattle.refusal.specs.Told.{says}
use Rattle.refusal.specs.declared.Refusal.{Refusal}
use Rattle.refusal.specs.declared.Refusal.TheVariants.{FieldCut, UnclearOverload}
use Rattle.header.specs.Header.{Stopped}
use Rattle.header.proofs.Readers.{stopped}
use Rattle.aggregate.specs.Spanned.{Whole, overload_said, named_cut, named_said}
use Rattle.aggregate.specs.Tallies.{none, tallied, counted}
use Rattle.aggregate.specs.declared.tally.Tally.{Tally}
use Rattle.aggregate.proofs.Tallying.{err_cut, ok_whole}

-- of two fields one is cut, or none
module _ (message : List ℕ) (named : ℕ) where
  abbrev file : Portions
  file = read_named (names_file named) file_field.start (bytes_of file_field message)

  abbrev sname : Portions
  sname = read_named (names_sname named) sname_field.start (bytes_of sname_field message)

  both : (s t : Bool) → is_cut file ≡ s → is_cut sname ≡ t → named_said message named ≡ cond (s || t) (Err FieldCut) (Ok (tt {0}))
  both s t e d = λ i. cond (e i || d i) (Err FieldCut) (Ok (tt {0}))

  module _ (code : ℕ) (t : Tally) {e : Refusal} where
    pub file_cut : Err e ≡ counted code t file → Err e ≡ named_said message named
    file_cut h = let c = err_cut code t file (sym h) in ap Err c.1 ∙ sym (both true _ c.0 refl)

    pub sname_cut : Err e ≡ counted code t sname → Err e ≡ named_said message named
    sname_cut h = let c = err_cut code t sname (sym h) in ap Err c.1 ∙ go (is_cut file) refl c.0
      where
        go : (s : Bool) → is_cut file ≡ s → is_cut sname ≡ true → Err FieldCut ≡ named_said message named
        go true f d = sym (both true true f d)
        go false f d = sym (both false true f d)

  pub none_is_cut : (code : ℕ) (t v : Tally) {u w : Tally} → Ok u ≡ counted code t file → Ok w ≡ counted code v sname → Ok (tt {0}) ≡ named_said message named
  none_is_cut code t v h k =
      sym (both false false (ok_whole code t file (sym h)).0 (ok_whole code v sname (sym k)).0)

-- a message that is not read
pub unread_so : (message : List ℕ) (e : Refusal) → Stopped message e → says e ≡ overload_of message
unread_so message e s = let r = stopped message e s in r.1 ∙ sym (not_read message r.0)

-- one that is
module _ (message : List ℕ) (there : Whole message) where
  abbrev f : OptionFields
  f = fields_of message

  pub clear : Clear (message_checks message)
  clear = message_read message there.most there.least

  -- its options field is cut
  pub cut_so : {e : Refusal} → Err e ≡ counted overload_code none (options_read f) → says e ≡ overload_of message
  cut_so {e} h =
      let c = err_cut overload_code none (options_read f) (sym h) in
      ap (λ (r : Refusal). says {A = ℕ} r) c.1 ∙ sym (options_cut message clear c.0)

  -- or it is not, and option 52 is unclear, or says this
  module _ {t : Tally} (h : Ok t ≡ counted overload_code none (options_read f)) where
    uncut : is_cut (options_read f) ≡ false
    uncut = (ok_whole overload_code none (options_read f) (sym h)).0

    pub counts_of : t ≡ tallied overload_code none (parts_in (options_read f))
    counts_of = (ok_whole overload_code none (options_read f) (sym h)).1

    pub unclear_so : {e : Refusal} → Err e ≡ overload_said f → says e ≡ overload_of message
    unclear_so {e} h = go (unclear_overload (overloads f)) refl h
      where
        go : (u : Bool) → unclear_overload (overloads f) ≡ u → Err e ≡ cond u (Err UnclearOverload) (Ok (overload f))
            → says e ≡ overload_of message
        go true u h = let is : e ≡ UnclearOverload = cc in ap (λ (r : Refusal). says {A = ℕ} r) is ∙ sym (unclear message clear uncut u)
        go false u h = cc

    module _ {named : ℕ} (said : Ok named ≡ overload_said f) where
      clearly : (unclear_overload (overloads f) ≡ false) × (named ≡ overload f)
      clearly = go (unclear_overload (overloads f)) refl said
        where
          go : (u : Bool) → unclear_overload (overloads f) ≡ u → Ok named ≡ cond u (Err UnclearOverload) (Ok (overload f))
              → (unclear_overload (overloads f) ≡ false) × (named ≡ overload f)
          go true u h = cc
          go false u h = (u, cc)

      looked : named_cut message named ≡ (is_cut (file_read f) || is_cut (sname_read f))
      looked = ap (named_cut message) clearly.1 ∙ (λ i. is_cut (sym (file-read message) i) || is_cut (sym (sname-read message) i))

      pub field_so : {e : Refusal} → Err e ≡ named_said message named → says e ≡ overload_of message
      field_so {e} h = go (named_cut message named) refl h
        where
          go : (u : Bool) → named_cut message named ≡ u → Err e ≡ cond u (Err FieldCut) (Ok (tt {0})) → says e ≡ overload_of message
          go true u h =
              let is : e ≡ FieldCut = cc in
              ap (λ (r : Refusal). says {A = ℕ} r) is ∙ sym (field_cut message clear uncut clearly.0 (sym looked ∙ u))
          go false u h = cc

      pub given_so : Ok (tt {0}) ≡ named_said message named → given named ≡ overload_of message
      given_so h = go (named_cut message named) refl h
        where
          go : (u : Bool) → named_cut message named ≡ u → Ok (tt {0}) ≡ cond u (Err FieldCut) (Ok (tt {0})) → given named ≡ overload_of message
          go true u h = cc
          go false u h = ap given clearly.1 ∙ sym (all_read message clear uncut clearly.0 (sym looked ∙ u))
