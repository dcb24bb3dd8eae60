-- The number of each kind (document 01, "Kinds of value"), and what it is to have a kind's number.
-- Assumes nothing.
use Rattle.std.specs.Prelude.{◌≡◌, ℕ, ◌<◌, Result, MatchResult}
use Rattle.kinds.specs.declared.Kind.{Kind}
use Rattle.kinds.specs.declared.Kind.TheVariants.{Raw, Address, Addresses, Pairs, Byte, YesNo, U16, U16s, U32, I32, Text, Codes, NodeType, MessageType, ThreeBytes, Flag}
use Rattle.kinds.specs.declared.NoKind.{NoKind}

abbrev pub number_of : Kind → ℕ
number_of Raw = 0
number_of Address = 1
number_of Addresses = 2
number_of Pairs = 3
number_of Byte = 4
number_of YesNo = 5
number_of U16 = 6
number_of U16s = 7
number_of U32 = 8
number_of I32 = 9
number_of Text = 10
number_of Codes = 11
number_of NodeType = 12
number_of MessageType = 13
number_of ThreeBytes = 14
number_of Flag = 15

-- the kind with this number, or an error with a number that no kind has
abbrev pub Numbers : ℕ → Result Kind NoKind → Type 0
Numbers number r = MatchResult r (λ kind. number_of kind ≡ number) (λ e. (e.0 ≡ number) × (15 < number))
