-- `entry` meets its contract, kind by kind.
-- Assumes nothing.
use mathlib.Core.Path.{◌≡◌, ap, ◌∙◌}
use Prim.Native.Nat.{ℕ, ◌*◌}
use native.Mathlib.Omega.{arith}
use Rattle.rfc.proofs.Values.{Listed, addresses, pairs, u16s, codes}
use Rattle.facts.proofs.Cells.{byte_at}
use Rattle.kinds.specs.declared.Kind.{Kind}
use Rattle.kinds.specs.declared.Kind.TheVariants.{Addresses, Pairs, U16s}
use Rattle.kinds.specs.Kind.{number_of}
use Rattle.kinds.proofs.Numbers.{number_one}
use Rattle.values.proofs.Entries.{last_kind, number_in, some, within, one, two}
use Rattle.values.proofs.entry.Goals as goal

pub overflow_mul-at : goal.overflow_mul-at
overflow_mul-at c = record { fits = omega (arith, within c.requires c.element_size-size.ensures) }

pub overflow_add-bytes : goal.overflow_add-bytes
overflow_add-bytes c = record { fits = omega (arith, within c.requires c.element_size-size.ensures) }

pub slice_bounds-bytes-end : goal.slice_bounds-bytes-end
slice_bounds-bytes-end c = omega (arith, within c.requires c.element_size-size.ensures)

pub bounds-value-at : goal.bounds-value-at
bounds-value-at c =
    omega (arith, within c.requires c.element_size-size.ensures, some c.requires c.element_size-size.ensures)

-- the last list has codes
coded : {kind : Kind} {width n : ℕ} → Listed (number_of kind) width n → (kind ≡ Addresses → ⊥) → (kind ≡ Pairs → ⊥) → (kind ≡ U16s → ⊥)
    → number_of kind ≡ 11
coded {kind} l no-addresses no-pairs no-u16s =
    last_kind l (λ e. no-addresses (number_one kind Addresses e)) (λ e. no-pairs (number_one kind Pairs e)) (λ e. no-u16s (number_one kind U16s e))

pub returns-in-Addresses : goal.returns-in-Addresses
returns-in-Addresses c = let is = ap number_of c.in-Addresses.is in
    one c.requires c.element_size-size.ensures is addresses _
    (c.u32_at.ensures ∙ number_in c.requires is addresses c.element_size-size.ensures 0 (omega arith))

pub returns-in-Pairs : goal.returns-in-Pairs
returns-in-Pairs c = let is = ap number_of c.in-Pairs.is in
    let number = number_in c.requires is pairs c.element_size-size.ensures in
    two c.requires c.element_size-size.ensures is _ _
    (c.u32_at-in-Pairs.ensures ∙ number 0 (omega arith)) (c.u32_at-in-Pairs-2.ensures ∙ number 4 (omega arith))

pub returns-in-U16s : goal.returns-in-U16s
returns-in-U16s c = let is = ap number_of c.in-U16s.is in
    one c.requires c.element_size-size.ensures is u16s _
    (c.u16_at.ensures ∙ number_in c.requires is u16s c.element_size-size.ensures 0 (omega arith))

pub returns-in_default : goal.returns-in_default
returns-in_default c =
    let size = c.element_size-size.ensures in
    one c.requires size (coded c.requires.is_list c.in_default.not-Addresses c.in_default.not-Pairs c.in_default.not-U16s) codes _
    (byte_at c.args.value.now (c.args.index * c.element_size-size.result) (omega (arith, within c.requires size, some c.requires size)))
