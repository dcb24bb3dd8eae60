-- What a refusal is in the definitions, and what an answer of the code tells.
-- Assumes nothing.
use Rattle.std.specs.Prelude.{ℕ, Bool, true, false, ◌≡◌, refl, cond, eqb, Result, Ok, Err}
use Rattle.rfc.specs.Numbers.{Answer, given, refused, needs}
use Rattle.refusal.specs.Others.{is_other}
use Rattle.refusal.specs.declared.Refusal.{Refusal}
use Rattle.refusal.specs.declared.Refusal.TheVariants.{MessageTooShort, TooLong, ChaddrPastEnd, PastEnd, JoinTooShort, NoSuchCode, ValueTooLong, NoRoom, OtherKind, WrongLength, NotUtf8, WidthAbove32, OddPairs, UnclearYesNo, FieldCut, UnclearOverload, SizeAboveBuffer, DestinationBarred, NoOldForm, Other}

-- document 01's number of each
abbrev pub number_of : Refusal → ℕ
number_of MessageTooShort = 1
number_of TooLong = 2
number_of ChaddrPastEnd = 3
number_of PastEnd = 4
number_of (JoinTooShort len) = 5
number_of NoSuchCode = 6
number_of ValueTooLong = 7
number_of NoRoom = 8
number_of OtherKind = 9
number_of WrongLength = 10
number_of NotUtf8 = 11
number_of WidthAbove32 = 12
number_of OddPairs = 13
number_of UnclearYesNo = 14
number_of FieldCut = 15
number_of UnclearOverload = 16
number_of SizeAboveBuffer = 17
number_of DestinationBarred = 18
number_of NoOldForm = 19
number_of (Other other) = other.number

-- and the refusal that has one of these numbers alone
unfoldable pub named : ℕ → Refusal
named n =
    cond (eqb n 1) MessageTooShort (
    cond (eqb n 2) TooLong (
    cond (eqb n 3) ChaddrPastEnd (
    cond (eqb n 4) PastEnd (
    cond (eqb n 6) NoSuchCode (
    cond (eqb n 7) ValueTooLong (
    cond (eqb n 8) NoRoom (
    cond (eqb n 9) OtherKind (
    cond (eqb n 10) WrongLength (
    cond (eqb n 11) NotUtf8 (
    cond (eqb n 12) WidthAbove32 (
    cond (eqb n 13) OddPairs (
    cond (eqb n 14) UnclearYesNo (
    cond (eqb n 15) FieldCut (
    cond (eqb n 16) UnclearOverload (
    cond (eqb n 17) SizeAboveBuffer (
    cond (eqb n 18) DestinationBarred (
    NoOldForm)))))))))))))))))

-- and the refusal by any number of a byte
abbrev pub by_name : (n : ℕ) (other : Bool) → is_other n ≡ other → Refusal
by_name n true e = Other (record { number = n; unnamed = e })
by_name n false e = named n

unfoldable pub refusal_of : ℕ → Refusal
refusal_of n = by_name n (is_other n) refl

-- the length that 5 needs
abbrev pub needed_of : Refusal → ℕ
needed_of MessageTooShort = 0
needed_of TooLong = 0
needed_of ChaddrPastEnd = 0
needed_of PastEnd = 0
needed_of (JoinTooShort len) = len
needed_of NoSuchCode = 0
needed_of ValueTooLong = 0
needed_of NoRoom = 0
needed_of OtherKind = 0
needed_of WrongLength = 0
needed_of NotUtf8 = 0
needed_of WidthAbove32 = 0
needed_of OddPairs = 0
needed_of UnclearYesNo = 0
needed_of FieldCut = 0
needed_of UnclearOverload = 0
needed_of SizeAboveBuffer = 0
needed_of DestinationBarred = 0
needed_of NoOldForm = 0
needed_of (Other other) = 0

-- what each says: its number, and with 5 the length that is needed
abbrev pub says : {A : Type 0} → Refusal → Answer A
says MessageTooShort = refused 1
says TooLong = refused 2
says ChaddrPastEnd = refused 3
says PastEnd = refused 4
says (JoinTooShort len) = needs len
says NoSuchCode = refused 6
says ValueTooLong = refused 7
says NoRoom = refused 8
says OtherKind = refused 9
says WrongLength = refused 10
says NotUtf8 = refused 11
says WidthAbove32 = refused 12
says OddPairs = refused 13
says UnclearYesNo = refused 14
says FieldCut = refused 15
says UnclearOverload = refused 16
says SizeAboveBuffer = refused 17
says DestinationBarred = refused 18
says NoOldForm = refused 19
says (Other other) = refused other.number

-- what an answer of the code tells: what was given, or what its refusal says
abbrev pub told : {A : Type 0} → Result A Refusal → Answer A
told (Ok x) = given x
told (Err e) = says e
