-- The numbers of the kinds: they are below 16, and no two kinds have the same, so the code's `==` on kinds is that of their numbers.
-- Assumes nothing.
use mathlib.Core.Path.{◌≡◌, refl, sym, ◌∙◌}
use Prim.Native.Nat.{◌<◌}
use lib.Dec.{eqb, lit<}
use denote.Enum.Declared.{tag_of}
use denote.Enum.Bare.{tag_one, sameb}
use Rattle.kinds.specs.declared.Kind.{Kind}
use Rattle.kinds.specs.declared.Kind.TheVariants.{Raw, Address, Addresses, Pairs, Byte, YesNo, U16, U16s, U32, I32, Text, Codes, NodeType, MessageType, ThreeBytes, Flag}
use Rattle.kinds.specs.contracts.Kind.{the_type}
use Rattle.kinds.specs.Kind.{number_of}

number_is_tag : (kind : Kind) → number_of kind ≡ tag_of the_type kind
number_is_tag Raw = refl
number_is_tag Address = refl
number_is_tag Addresses = refl
number_is_tag Pairs = refl
number_is_tag Byte = refl
number_is_tag YesNo = refl
number_is_tag U16 = refl
number_is_tag U16s = refl
number_is_tag U32 = refl
number_is_tag I32 = refl
number_is_tag Text = refl
number_is_tag Codes = refl
number_is_tag NodeType = refl
number_is_tag MessageType = refl
number_is_tag ThreeBytes = refl
number_is_tag Flag = refl

-- they are below 16
pub number_below : (kind : Kind) → number_of kind < 16
number_below Raw = lit< tt
number_below Address = lit< tt
number_below Addresses = lit< tt
number_below Pairs = lit< tt
number_below Byte = lit< tt
number_below YesNo = lit< tt
number_below U16 = lit< tt
number_below U16s = lit< tt
number_below U32 = lit< tt
number_below I32 = lit< tt
number_below Text = lit< tt
number_below Codes = lit< tt
number_below NodeType = lit< tt
number_below MessageType = lit< tt
number_below ThreeBytes = lit< tt
number_below Flag = lit< tt

-- a number is that of one kind alone
pub number_one : (a b : Kind) → number_of a ≡ number_of b → a ≡ b
number_one a b e = tag_one the_type tt a b (sym (number_is_tag a) ∙ e ∙ number_is_tag b)

-- `==` on kinds
pub same_kind : (a b : Kind) → sameb the_type a b ≡ eqb (number_of a) (number_of b)
same_kind a b = rw (number_is_tag a, number_is_tag b)
