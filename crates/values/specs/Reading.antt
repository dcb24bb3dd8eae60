-- What the contracts of typed reading say, over the definitions of `Rattle.rfc.specs.Values`.
-- Assumes nothing.
use Rattle.std.specs.Prelude.{ℕ, ◌<◌, Bool, true, false, ◌≡◌, List, [], ◌∷◌, length, get_or, Result, Ok, Err}
use Rattle.std.specs.Result.{result_map_both}
use Rattle.rfc.specs.Numbers.{Answer, given}
use Rattle.rfc.specs.Values as rfc
use Rattle.rfc.proofs.Values.{Listed}
use Rattle.rfc.specs.Values.{raw, natural, integer, truth, numbers, nothing, numbers_of, Mode, plain, strict, elements, node_of, value_of, wrong_length}
use Rattle.refusal.specs.declared.Refusal.{Refusal}
use Rattle.refusal.specs.Told as refusal
use Rattle.values.specs.declared.answer.Node.{Node}
use Rattle.values.specs.declared.answer.Node.TheVariants.{B, P, M, H, Unknown}
use Rattle.values.specs.declared.answer.Value.{Value}
use Rattle.values.specs.declared.answer.Value.TheVariants as value
use Rattle.values.specs.declared.answer.Element.{Element}
use Rattle.values.specs.declared.answer.Element.TheVariants as element

-- the mode that the code's `strict` asks for
abbrev pub mode_of : Bool → Mode
mode_of false = plain
mode_of true = strict

-- each node type's byte, and its name in the definitions
abbrev pub byte_of : Node → ℕ
byte_of B = 1
byte_of P = 2
byte_of M = 4
byte_of H = 8
byte_of (Unknown byte) = byte

abbrev pub node_says : Node → rfc.Node
node_says B = rfc.b_node
node_says P = rfc.p_node
node_says M = rfc.m_node
node_says H = rfc.h_node
node_says (Unknown byte) = rfc.unknown byte

-- what each case says, with the value's bytes: the document's kind, and what the value holds. (A list's count is in `count_of`)
abbrev pub says : Value → List ℕ → rfc.Value
says value.Raw v = record { kind = 0; content = raw v }
says (value.Address n) v = record { kind = 1; content = natural n }
says (value.Addresses count) v = record { kind = 2; content = numbers (numbers_of 4 v) }
says (value.Pairs count) v = record { kind = 3; content = numbers (numbers_of 4 v) }
says (value.Byte n) v = record { kind = 4; content = natural n }
says (value.YesNo t) v = record { kind = 5; content = truth t }
says (value.U16 n) v = record { kind = 6; content = natural n }
says (value.U16s count) v = record { kind = 7; content = numbers (numbers_of 2 v) }
says (value.U32 n) v = record { kind = 8; content = natural n }
says (value.I32 z) v = record { kind = 9; content = integer z }
says value.Text v = record { kind = 10; content = raw v }
says (value.Codes count) v = record { kind = 11; content = numbers (numbers_of 1 v) }
says (value.NodeType node) v = record { kind = 12; content = natural (byte_of node) }
says (value.MessageType n) v = record { kind = 13; content = natural n }
says (value.ThreeBytes a b c) v = record { kind = 14; content = raw (a ∷ b ∷ c ∷ []) }
says value.Flag v = record { kind = 15; content = nothing }

-- how many elements a case says that there are
abbrev pub count_of : Value → ℕ
count_of value.Raw = 0
count_of (value.Address n) = 0
count_of (value.Addresses count) = count
count_of (value.Pairs count) = count
count_of (value.Byte n) = 0
count_of (value.YesNo t) = 0
count_of (value.U16 n) = 0
count_of (value.U16s count) = count
count_of (value.U32 n) = 0
count_of (value.I32 z) = 0
count_of value.Text = 0
count_of (value.Codes count) = count
count_of (value.NodeType node) = 0
count_of (value.MessageType n) = 0
count_of (value.ThreeBytes a b c) = 0
count_of value.Flag = 0

-- where it is a node type, it is the one that its byte has
abbrev pub Named : Value → Type 0
Named value.Raw = Unit {0}
Named (value.Address n) = Unit {0}
Named (value.Addresses count) = Unit {0}
Named (value.Pairs count) = Unit {0}
Named (value.Byte n) = Unit {0}
Named (value.YesNo t) = Unit {0}
Named (value.U16 n) = Unit {0}
Named (value.U16s count) = Unit {0}
Named (value.U32 n) = Unit {0}
Named (value.I32 z) = Unit {0}
Named value.Text = Unit {0}
Named (value.Codes count) = Unit {0}
Named (value.NodeType node) = node_says node ≡ node_of (byte_of node)
Named (value.MessageType n) = Unit {0}
Named (value.ThreeBytes a b c) = Unit {0}
Named value.Flag = Unit {0}

-- a list's count is the number of its elements, what is no list has none, and a node type is the one that its byte has
pub record Exact (v : List ℕ) (r : Value) : Type 0 where
  pub counted : count_of r ≡ length (elements (says r v))
  pub named : Named r

-- of the bytes v, the case r tells the answer
pub record Tells (v : List ℕ) (answer : Answer rfc.Value) (r : Value) : Type 0 where
  pub told : given (says r v) ≡ answer
  pub exact : Exact v r

-- of the bytes v, a reading tells the answer
abbrev pub ReadAs : List ℕ → Answer rfc.Value → Result Value Refusal → Type 0
ReadAs v answer (Ok r) = Tells v answer r
ReadAs v answer (Err e) = refusal.says e ≡ answer

-- what each case of an element says: the list's kind, and the element's numbers
abbrev pub entry_says : Element → rfc.Element
entry_says (element.Address n) = record { kind = 2; entries = n ∷ [] }
entry_says (element.Pair a b) = record { kind = 3; entries = a ∷ b ∷ [] }
entry_says (element.U16 n) = record { kind = 7; entries = n ∷ [] }
entry_says (element.Code n) = record { kind = 11; entries = n ∷ [] }

-- what the answer of an element tells
abbrev pub element_says : Result Element Refusal → Answer rfc.Element
element_says answer = refusal.told (result_map_both entry_says (λ (e : Refusal). e) answer)

-- Between the functions of the crate: bytes whose length is right for a kind
pub record Right (kind : ℕ) (v : List ℕ) : Type 0 where
  pub length_right : wrong_length plain kind v ≡ false

-- the kind of a list, with the bytes of one number and the numbers of one element, its bytes, and an index below its count
pub record Entry (kind : ℕ) (v : List ℕ) (index : ℕ) : Type 0 where
  pub width : ℕ
  pub n : ℕ
  pub is_list : Listed kind width n
  pub length_right : wrong_length plain kind v ≡ false
  pub below : index < length (elements (value_of kind v))

-- the element there
abbrev pub entry_at : ℕ → List ℕ → ℕ → rfc.Element
entry_at kind v index = record { kind = kind; entries = get_or (elements (value_of kind v)) index [] }
