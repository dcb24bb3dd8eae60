-- What strict reading asks of lists and texts (document 02, ticket 3): one that has no element is refused by 10, code 68 excepted, and all
-- else that plain reading judges by its elements is read as in plain mode.
-- Assumes nothing.
use Rattle.std.specs.Prelude.{ℕ, ◌≤◌, ◌≡◌, List, [], length}
use Rattle.rfc.specs.Numbers.{given, refused}
use Rattle.rfc.specs.Kinds.{kind_of}
use Rattle.rfc.specs.Values.{numbers, plain, strict, home_agents, ListOrText, read}

-- "kinds 2, 3, 7, 10 and 11 with no element are refused in strict mode, code 68 excepted"
abbrev pub EmptyRefused : Type 0
EmptyRefused = (code : ℕ) → ListOrText (kind_of code) → (code ≡ home_agents → ⊥) → read strict code [] ≡ refused 10

-- "option 68 alone may be empty, for "no home agents""
abbrev pub NoHomeAgents : Type 0
NoHomeAgents = read strict home_agents [] ≡ given (record { kind = 2; content = numbers [] })

-- a list or text that has a byte is read in strict mode as in plain mode, refusals included, 11 among them
abbrev pub ElseAsPlain : Type 0
ElseAsPlain = (code : ℕ) (v : List ℕ) → ListOrText (kind_of code) → 1 ≤ length v → read strict code v ≡ read plain code v

-- and so are raw bytes, also none
abbrev pub RawAsPlain : Type 0
RawAsPlain = (code : ℕ) (v : List ℕ) → kind_of code ≡ 0 → read strict code v ≡ read plain code v
