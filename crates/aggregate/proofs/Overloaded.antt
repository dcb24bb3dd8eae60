-- What option 52 says, and whether a field that it names is cut, by what was counted.
-- Assumes nothing.
use Prim.Native.Nat.{ℕ, ◌+◌, ◌-◌, ◌≤◌, ◌<◌}
use mathlib.Core.Path.{◌≡◌, refl, sym, ap, subst, ◌∙◌}
use native.Mathlib.Omega.{arith}
use mathlib.Core.Bool.{Bool, cond}
use mathlib.Core.List.{List}
use lib.ListN.{length, take, drop, get_or}
use Rattle.std.specs.Prelude.{Result, Ok, Err}
use Rattle.rfc.specs.Header.{Part, bytes_of, message_checks, area}
use Rattle.rfc.specs.Portions.{portions, parts_in}
use Rattle.rfc.specs.Aggregate.{OptionFields, fields_of, overload_code, options_read, overloads, overload, read_named}
use Rattle.rfc.proofs.Numbers.{Clear}
use Rattle.rfc.proofs.Overload.{said, said_none, said_often, said_long, OneByte, said_once, byte_zero, byte_above, byte_said, said_unclear, said_clear, overloads_are, overload_is, named_read}
use Rattle.rfc.proofs.Standing.{overloads_in_place}
use Rattle.refusal.specs.declared.Refusal.{Refusal}
use Rattle.refusal.specs.declared.Refusal.TheVariants.{UnclearOverload}
use Rattle.aggregate.specs.Spanned.{options_start, overload_said}
use Rattle.aggregate.specs.Tallies.{none, tallied, counted}
use Rattle.aggregate.specs.declared.tally.Tally.{Tally}
use Rattle.aggregate.proofs.Gathering.{Amounts, amounts}
use Rattle.aggregate.proofs.Spanning.{options-read}

-- what was counted of the parts of option 52
pub told_is : (f : OptionFields) {told : Tally} → told ≡ tallied overload_code none (parts_in (options_read f)) → Amounts told (overloads f)
told_is f {told} e = subst (Amounts told) (sym (overloads_are f)) (amounts overload_code (parts_in (options_read f)) e)

-- what they say, where it is clear, and that it is not
clear_says : (f : OptionFields) {n : ℕ} → said (overloads f) ≡ n → n ≤ 3 → Ok n ≡ overload_said f
clear_says f {n} e h =
    let s = said_clear (overloads f) (omega arith) in
    let is : n ≡ overload f = sym e ∙ s.1 ∙ sym (overload_is f) in
    rw s.0 (ap Ok is)

unclear_says : (f : OptionFields) → said (overloads f) ≡ 4 → Err UnclearOverload ≡ overload_said f
unclear_says f e = rw (said_unclear (overloads f) (omega arith)) refl

-- so of a message whose parts of option 52 were counted
module _ (message : List ℕ) {t : Tally} (e : t ≡ tallied overload_code none (parts_in (options_read (fields_of message)))) where
  abbrev f : OptionFields
  f = fields_of message

  pub none_says : t.parts ≡ 0 → Ok 0 ≡ overload_said f
  none_says z = let a = told_is f e in clear_says f (said_none _ (omega (arith, a.parts))) (omega arith)

  pub often_says : 1 < t.parts → Err UnclearOverload ≡ overload_said f
  often_says h = let a = told_is f e in unclear_says f (said_often _ (omega (arith, a.parts)))

  module _ (one : t.parts ≡ 1) where
    pub long_says : (t.len ≡ 1 → ⊥) → Err UnclearOverload ≡ overload_said f
    long_says n = let a = told_is f e in unclear_says f (said_long _ (omega (arith, a.parts)) (λ h. n (a.len ∙ h)))

    module _ (byte : t.len ≡ 1) where
      pub one_byte : OneByte message (overloads f) t.place
      one_byte = let a = told_is f e in said_once message _ _ (overloads_in_place message) (omega (arith, a.parts)) (omega (arith, a.len)) a.place

      pub byte_says : 1 ≤ get_or message (t.place - 1) 0 → get_or message (t.place - 1) 0 ≤ 3
          → Ok (get_or message (t.place - 1) 0) ≡ overload_said f
      byte_says h g = clear_says f (byte_said one_byte (λ z. omega arith) g) g

      pub zero_says : get_or message (t.place - 1) 0 < 1 → Err UnclearOverload ≡ overload_said f
      zero_says h = unclear_says f (byte_zero one_byte (omega arith))

      pub above_says : 3 < get_or message (t.place - 1) 0 → Err UnclearOverload ≡ overload_said f
      above_says h = unclear_says f (byte_above one_byte h)

-- what is counted from where the options begin is counted of the options field
pub options_told : (message : List ℕ) → Clear (message_checks message) → {start : ℕ} {before : Tally} {r : Result Tally Refusal}
    → start ≡ options_start message (area message) → before ≡ none → r ≡ counted overload_code before (portions start (drop start message))
    → r ≡ counted overload_code none (options_read (fields_of message))
options_told message c e b t =
    t ∙ (λ i. counted overload_code (b i) (portions (e i) (drop (e i) message))) ∙ ap (counted overload_code none) (options-read message c)

-- what is counted of a field that is named is counted of what is read of it
pub named_told : (p : Part) (message : List ℕ) (named : Bool) (code : ℕ) (before : Tally) {end : ℕ} {r : Result Tally Refusal}
    → p.start ≤ length message → end ≡ cond named (p.start + p.len) p.start
    → r ≡ counted code before (portions p.start (drop p.start (take end message)))
    → r ≡ counted code before (read_named named p.start (bytes_of p message))
named_told p message named code before h e t =
    t ∙ ap (counted code before)
    (ap (λ (k : ℕ). portions p.start (drop p.start (take k message))) e ∙ named_read p message named h)
