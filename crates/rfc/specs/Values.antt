-- What the value of an option reads as, by the kind of its code (RFC 2132, sections 3 to 9; document 01, "Kinds of value").
-- Assumes nothing.
use Rattle.std.specs.Prelude.{ℕ, ◌/◌, ◌%◌, Bool, false, cond, not, ◌&&◌, ◌||◌, List, [], ◌∷◌, map, eqb, ltb, ℤ, length, get_or, take}
use Rattle.facts.specs.BigEndian.{number, signed}
use Rattle.facts.specs.Pieces.{pieces}
use Rattle.facts.specs.Ranges.{Row, row, lookup}
use Rattle.rfc.specs.Numbers.{Answer, given, and_then, Check, check, checked, too_long, no_element, no_code}
use Rattle.rfc.specs.Walk.{Found, stop, option, Stop}
use Rattle.rfc.specs.Kinds.{kind_of, size_of}
use Rattle.rfc.specs.Text.{utf8}

-- what a value holds: bytes as they stand, a number, a number with a sign, yes (true) or no, numbers one behind the other, or nothing
pub data Content : Type 0 where
  raw : List ℕ → Content
  natural : ℕ → Content
  integer : ℤ → Content
  truth : Bool → Content
  numbers : List ℕ → Content
  nothing : Content

-- a value: its kind, and what it holds
pub record Value : Type 0 where
  pub kind : ℕ
  pub content : Content

-- the numbers of so many bytes each that some bytes are
unfoldable pub numbers_of : ℕ → List ℕ → List ℕ
numbers_of width v = map number (pieces width v)

-- in lists: how many bytes each number has; addresses and pairs of them 4, u16s 2, codes 1
unfoldable pub width_of : ℕ → ℕ
width_of kind = lookup 1 (row 2 3 4 ∷ row 7 7 2 ∷ []) kind

-- what each kind holds, where `first` is the number that its first element's bytes are. Bytes behind a number are not looked at, and
-- only 1 is yes (document 01)
unfoldable pub contents : ℕ → List ℕ → ℕ → List (Row Content)
contents kind v first =
    row 0 0 (raw v)
    ∷ row 1 1 (natural first)
    ∷ row 2 3 (numbers (numbers_of (width_of kind) v))
    ∷ row 4 4 (natural first)
    ∷ row 5 5 (truth (eqb first 1))
    ∷ row 6 6 (natural first)
    ∷ row 7 7 (numbers (numbers_of (width_of kind) v))
    ∷ row 8 8 (natural first)
    ∷ row 9 9 (integer (signed first))
    ∷ row 10 10 (raw v)
    ∷ row 11 11 (numbers (numbers_of (width_of kind) v))
    ∷ row 12 13 (natural first)
    ∷ row 14 14 (raw (take (size_of kind) v))
    ∷ []

unfoldable pub value_of : ℕ → List ℕ → Value
value_of kind v =
    record { kind = kind; content = lookup nothing (contents kind v (number (take (size_of kind) v))) kind }

-- the rule for a value's length, by the size of its kind's element: exactly it, at least it, a multiple of it (also 0), or one element or more
pub data Rule : Type 0 where
  exactly at_least multiple one_or_more : Rule

abbrev pub breaks : Rule → ℕ → ℕ → Bool
breaks exactly size len = not (eqb len size)
breaks at_least size len = ltb len size
breaks multiple size len = not (eqb (len % size) 0)
breaks one_or_more size len = eqb len 0 || not (eqb (len % size) 0)

-- plain reading, as the crate has it, or strict
pub data Mode : Type 0 where
  plain strict : Mode

-- the rules by kind, the same ranges in both modes; raw bytes, text and codes have elements of one byte, so any length is a multiple. Strict
-- reading asks a single value for its exact length, and a list or text for an element: RFC 2132's own rule for its codes, and the form's for
-- others (document 02, ticket 3)
unfoldable pub rules : Mode → List (Row Rule)
rules plain =
    row 1 1 exactly
    ∷ row 2 3 multiple
    ∷ row 4 6 at_least
    ∷ row 7 7 multiple
    ∷ row 8 9 at_least
    ∷ row 10 11 multiple
    ∷ row 12 15 at_least
    ∷ []
rules strict =
    row 1 1 exactly
    ∷ row 2 3 one_or_more
    ∷ row 4 6 exactly
    ∷ row 7 7 one_or_more
    ∷ row 8 9 exactly
    ∷ row 10 11 one_or_more
    ∷ row 12 15 exactly
    ∷ []

-- the rule for a kind
unfoldable pub rule_for : Mode → ℕ → Rule
rule_for mode kind = lookup multiple (rules mode) kind

-- 10: the value's length is wrong for its kind
unfoldable pub wrong_length : Mode → ℕ → List ℕ → Bool
wrong_length mode kind v = breaks (rule_for mode kind) (size_of kind) (length v)

-- the code of the mobile IP home agents: the one list that may be empty, for "no home agents" (RFC 2132, section 8.13)
abbrev pub home_agents : ℕ
home_agents = 68

-- the mode by whose rule a code's length is judged: in strict mode that of the home agents is judged as in plain (document 02, ticket 3)
unfoldable pub length_mode : Mode → ℕ → Mode
length_mode plain code = plain
length_mode strict code = cond (eqb code home_agents) plain strict

-- the kinds that are lists or texts, which strict reading asks for an element
pub data ListOrText : ℕ → Type 0 where
  addresses : ListOrText 2
  pairs : ListOrText 3
  u16s : ListOrText 7
  text : ListOrText 10
  codes : ListOrText 11

-- 11: text is not UTF-8
unfoldable pub not_text : ℕ → List ℕ → Bool
not_text kind v = eqb kind 10 && not (utf8 v)

-- 14: strict mode: a yes/no byte is neither 0 nor 1
unfoldable pub unclear : Mode → ℕ → List ℕ → Bool
unclear plain kind v = false
unclear strict kind v = eqb kind 5 && ltb 1 (get_or v 0 0)

unfoldable pub read_checks : Mode → ℕ → List ℕ → List Check
read_checks mode code v =
    check (too_long v) 2
    ∷ check (no_code code) 6
    ∷ check (wrong_length (length_mode mode code) (kind_of code) v) 10
    ∷ check (not_text (kind_of code) v) 11
    ∷ check (unclear mode (kind_of code) v) 14
    ∷ []

-- what a value of a code reads as
unfoldable pub read : Mode → ℕ → List ℕ → Answer Value
read mode code v = checked (read_checks mode code v) (given (value_of (kind_of code) v))

-- the elements of a list, each with its numbers: two addresses for a pair, else one number. What is no list has none
unfoldable pub elements : Value → List (List ℕ)
elements value = elements_in value.content
  where
    elements_in : Content → List (List ℕ)
    elements_in (raw v) = []
    elements_in (natural n) = []
    elements_in (integer z) = []
    elements_in (truth b) = []
    elements_in (numbers l) = pieces (size_of value.kind / width_of value.kind) l
    elements_in nothing = []

-- an element of a list: the list's kind, and the element's numbers
pub record Element : Type 0 where
  pub kind : ℕ
  pub entries : List ℕ

-- 4: the index is not below the count
unfoldable pub element_at : ℕ → Value → Answer Element
element_at index value =
    checked (check (no_element index (length (elements value))) 4 ∷ [])
    (given (record { kind = value.kind; entries = get_or (elements value) index [] }))

-- the element at an index of what was read
unfoldable pub element : ℕ → Answer Value → Answer Element
element index reading = and_then reading (element_at index)

-- the node types by their byte (RFC 2132, section 8.7)
pub data Node : Type 0 where
  b_node p_node m_node h_node : Node
  unknown : ℕ → Node

unfoldable pub node_of : ℕ → Node
node_of byte = lookup (unknown byte) (row 1 1 b_node ∷ row 2 2 p_node ∷ row 4 4 m_node ∷ row 8 8 h_node ∷ []) byte

-- a whole option, read: a stop, or the option's code, its value, and the place behind it
pub data Whole : Type 0 where
  stopped : Stop → ℕ → Whole
  valued : ℕ → Value → ℕ → Whole

unfoldable pub read_found : Mode → Found → Answer Whole
read_found mode (stop s at) = given (stopped s at)
read_found mode (option code v n at) = and_then (read mode code v) (λ (value : Value). given (valued code value at))

-- what a call of the walk answered, read: a stop passes through, and the walk's refusals come first
unfoldable pub read_option : Mode → Answer Found → Answer Whole
read_option mode answer = and_then answer (read_found mode)
