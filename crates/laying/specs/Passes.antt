-- Two passes over the rows of a value: the first measures it, the second puts it byte by byte. What each does to its state and to the room.
-- Assumes nothing.
use Rattle.std.specs.Prelude.{ℕ, ◌<◌, ◌+◌, ◌-◌, min, cond, eqb, leb, ltb, length, set, Option, Some, None, is_some, Result, Ok, Err}
use mathlib.Core.List.{List, [], ◌∷◌, foldl}
use Rattle.facts.specs.Each.{Each}
use Rattle.rfc.specs.Numbers.{most_bytes, most_value, Check, check, first_refusal}
use Rattle.rfc.specs.Writing.{size_in_parts}
use Rattle.rfc.specs.Strung.{RowMade, all_bytes}
use Rattle.refusal.specs.declared.Refusal.{Refusal}
use Rattle.refusal.specs.declared.Refusal.TheVariants.{TooLong, PastEnd, ValueTooLong, NoRoom}
use Rattle.refusal.specs.Told.{refusal_of}
use Rattle.laying.specs.declared.Pass.{Pass}

-- the state of a pass, and what the room holds
abbrev pub State : Type 0
State = Pass × List ℕ

-- a pass that measures from the start
abbrev pub first : ℕ → ℕ → ℕ → Pass
first place code most = record { refusal = None; code = code; most = most; at = place; part = 0; len = 0 }

-- a pass that has refused
abbrev pub refuse : Refusal → Pass → Pass
refuse e p =
    record { refusal = Some e; code = p.code; most = p.most; at = p.at; part = p.part; len = p.len }

-- a pass that has measured so many bytes
abbrev pub with_len : ℕ → Pass → Pass
with_len n p =
    record { refusal = p.refusal; code = p.code; most = p.most; at = p.at; part = p.part; len = n }

-- a pass that has put the head of a part of n bytes
abbrev pub headed : ℕ → Pass → Pass
headed n p =
    record { refusal = p.refusal; code = p.code; most = p.most; at = p.at + 2; part = n; len = p.len - n }

-- a pass that has put a byte of a part
abbrev pub onward : Pass → Pass
onward p =
    record { refusal = p.refusal; code = p.code; most = p.most; at = p.at + 1; part = p.part - 1; len = p.len }

-- before the first pass, into a room of n bytes: 2 and 4
unfoldable pub begun : ℕ → ℕ → ℕ → ℕ → Pass
begun n place code most =
    let p = first place code most in
    cond (ltb most_bytes n) (refuse TooLong p) (cond (ltb n place) (refuse PastEnd p) p)

-- one row is measured, by why it is refused or by how many bytes it has. After a refusal nothing is done, and from more than the most bytes
-- of a value on nothing is counted
unfoldable pub measured : Pass → Result ℕ Refusal → Pass
measured p (Err e) = cond (is_some p.refusal) p (refuse e p)
measured p (Ok n) = cond (is_some p.refusal) p (cond (ltb most_value p.len) p (with_len (p.len + n) p))

-- what a row gives to be measured: the refusal of its first check's number, or how many bytes it has
unfoldable pub row_of : RowMade → Result ℕ Refusal
row_of m = let number = first_refusal m.checks in cond (ltb 0 number) (Err (refusal_of number)) (Ok (length m.bytes))

abbrev pub gauged : Pass → RowMade → Pass
gauged p m = measured p (row_of m)

-- between the passes, with a room of n bytes: 7 and 8
unfoldable pub turned : Pass → ℕ → Pass
turned p n =
    cond (is_some p.refusal) p
    (cond (ltb most_value p.len) (refuse ValueTooLong p) (cond (ltb n (p.at + size_in_parts p.most p.len)) (refuse NoRoom p) p))

-- where no byte of a part is to come, the head of the next part is put, if it fits
unfoldable pub opened : State → State
opened d =
    let p = d.0 in
    let n = min p.most p.len in
    cond (ltb 0 p.part) d
    (cond (ltb (length d.1) (p.at + 2)) d (headed n p, set (set d.1 p.at p.code) (p.at + 1) n))

-- a byte of a part is put, if it fits
unfoldable pub added : State → ℕ → State
added d byte =
    let p = d.0 in
    cond (eqb p.part 0) d (cond (leb (length d.1) p.at) d (onward p, set d.1 p.at byte))

-- the next byte of the value is put
abbrev pub put : State → ℕ → State
put d byte = added (opened d) byte

-- what is answered
abbrev pub outcome : Option Refusal → ℕ → Result ℕ Refusal
outcome (Some e) at = Err e
outcome None at = Ok at

abbrev pub answered : Pass → Result ℕ Refusal
answered p = outcome p.refusal p.at

-- both passes over rows, into a room
unfoldable pub laid : Pass → List RowMade → List ℕ → Result ℕ Refusal × List ℕ
laid p ms room =
    let q = turned (foldl gauged p ms) (length room) in
    let d : State = cond (is_some q.refusal) (q, room) (foldl put (q, room) (all_bytes ms)) in
    (answered d.0, d.1)

-- the checks of a row have numbers of a byte, which are not 0
abbrev pub Known : List Check → Type 0
Known [] = Unit {0}
Known (check test number ∷ checks) = ((0 < number) × (number < 256)) × Known checks

abbrev pub EachKnown : List RowMade → Type 0
EachKnown = Each (λ (m : RowMade). Known m.checks)
