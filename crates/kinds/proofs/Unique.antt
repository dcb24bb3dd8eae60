-- Any two answers that a contract of this crate allows are equal.
-- Assumes nothing.
use mathlib.Core.Path.{◌≡◌, sym, ap, ◌∙◌}
use Prim.Native.Nat.{ℕ}
use native.Mathlib.Omega.{arith}
use Rattle.std.specs.Prelude.{Result, Ok, Err}
use Rattle.facts.proofs.Unique.{Unique}
use Rattle.kinds.specs.declared.Kind.{Kind}
use Rattle.kinds.specs.declared.NoKind.{NoKind}
use Rattle.kinds.specs.Kind.{Numbers}
use Rattle.kinds.proofs.Numbers.{number_below, number_one}
use Rattle.kinds.proofs.Kind.number.Kinds as number-kinds
use Rattle.kinds.proofs.Kind.number.Reads as number
use Rattle.kinds.proofs.Kind.element_size.Kinds as kind-size-kinds
use Rattle.kinds.proofs.Kind.element_size.Reads as kind-size
use Rattle.kinds.proofs.KindTryFromU8.try_from.Kinds as try-from-kinds
use Rattle.kinds.proofs.KindTryFromU8.try_from.Reads as try-from
use Rattle.kinds.proofs.kind_of.Kinds as kind-of-kinds
use Rattle.kinds.proofs.kind_of.Reads as kind-of
use Rattle.kinds.proofs.element_size.Kinds as element-size-kinds
use Rattle.kinds.proofs.element_size.Reads as element-size

-- two answers about a number
numbers_one : (n : ℕ) (x y : Result Kind NoKind) → Numbers n x → Numbers n y → x ≡ y
numbers_one n (Ok a) (Ok b) p q = ap (λ (k : Kind). Ok k) (number_one a b (p ∙ sym q))
numbers_one n (Ok a) (Err e) p q = absurd (omega (arith, number_below a))
numbers_one n (Err e) (Ok b) p q = absurd (omega (arith, number_below b))
numbers_one n (Err d) (Err e) p q = λ i. Err (record { 0 = (p.0 ∙ sym q.0) i })

number_unique : Unique 0 number-kinds.ps number-kinds.r number.Post
number_unique κs a x y s t p q = p ∙ sym q

kind_size_unique : Unique 0 kind-size-kinds.ps kind-size-kinds.r kind-size.Post
kind_size_unique κs a x y s t p q = p ∙ sym q

try_from_unique : Unique 0 try-from-kinds.ps try-from-kinds.r try-from.Post
try_from_unique κs a x y s t p q = numbers_one _ x y p q

kind_of_unique : Unique 0 kind-of-kinds.ps kind-of-kinds.r kind-of.Post
kind_of_unique κs a x y s t p q = number_one x y (p ∙ sym q)

element_size_unique : Unique 0 element-size-kinds.ps element-size-kinds.r element-size.Post
element_size_unique κs a x y s t p q = p ∙ sym q
