-- Any two answers that a contract of this crate allows are equal.
-- Assumes nothing.
use mathlib.Core.Path.{◌≡◌, refl, sym, ap, ◌∙◌}
use Prim.Native.Nat.{ℕ}
use mathlib.Core.Bool.{cond}
use mathlib.Core.List.{List}
use lib.Dec.{eqb}
use lib.ListN.{length, get_or}
use Rattle.std.specs.Prelude.{Result, Ok, Err}
use Rattle.facts.proofs.Unique.{Unique}
use Rattle.rfc.specs.Numbers.{Answer, given, and_then}
use Rattle.rfc.specs.Values as rfc
use Rattle.rfc.specs.Values.{Content, raw, natural, integer, truth, numbers, nothing, elements, node_of}
use Rattle.refusal.specs.declared.Refusal.{Refusal}
use Rattle.refusal.specs.Told as refusal
use Rattle.refusal.specs.Told.{told}
use Rattle.refusal.proofs.Told.{told_one, says_then}
use Rattle.values.specs.Reading.{node_says, says, Exact, ReadAs, entry_says, element_says}
use Rattle.values.specs.declared.answer.Node.{Node}
use Rattle.values.specs.declared.answer.Node.TheVariants.{B, P, M, H, Unknown}
use Rattle.values.specs.declared.answer.Value.{Value}
use Rattle.values.specs.declared.answer.Value.TheVariants as case
use Rattle.values.specs.declared.answer.Element.{Element}
use Rattle.values.specs.declared.answer.Element.TheVariants as element
use Rattle.values.proofs.read.Kinds as read-kinds
use Rattle.values.proofs.read.Reads as read
use Rattle.values.proofs.element.Kinds as element-kinds
use Rattle.values.proofs.element.Reads as element-reads
use Rattle.values.proofs.answer.NodeFromU8.from.Kinds as node-of-kinds
use Rattle.values.proofs.answer.NodeFromU8.from.Reads as node_of_lem
use Rattle.values.proofs.answer.U8FromNode.from.Kinds as byte-of-kinds
use Rattle.values.proofs.answer.U8FromNode.from.Reads as byte_of

-- back from what is said to who said it: a node type,
node_back : rfc.Node → Node
node_back rfc.b_node = B
node_back rfc.p_node = P
node_back rfc.m_node = M
node_back rfc.h_node = H
node_back (rfc.unknown n) = Unknown n

node-back : (node : Node) → node_back (node_says node) ≡ node
unfolding node_back
node-back B = refl
node-back P = refl
node-back M = refl
node-back H = refl
node-back (Unknown n) = refl

-- a value,
back_in : ℕ → Content → Value
back_in kind (raw l) = cond (eqb kind 0) case.Raw (cond (eqb kind 10) case.Text (case.ThreeBytes (get_or l 0 0) (get_or l 1 0) (get_or l 2 0)))
back_in kind (natural n) =
    cond (eqb kind 1) (case.Address n)
    (cond (eqb kind 4) (case.Byte n)
    (cond (eqb kind 6) (case.U16 n)
    (cond (eqb kind 8) (case.U32 n)
    (cond (eqb kind 12) (case.NodeType (node_back (node_of n))) (case.MessageType n)))))
back_in kind (integer z) = case.I32 z
back_in kind (truth t) = case.YesNo t
back_in kind (numbers l) =
    let count = length (elements (record { kind = kind; content = numbers l })) in
    cond (eqb kind 2) (case.Addresses count) (cond (eqb kind 3) (case.Pairs count) (cond (eqb kind 7) (case.U16s count) (case.Codes count)))
back_in kind nothing = case.Flag

pub back : rfc.Value → Value
back x = back_in x.kind x.content

pub says_back : (r : Value) (v : List ℕ) → Exact v r → back (says r v) ≡ r
unfolding back back_in
says_back case.Raw v e = refl
says_back (case.Address n) v e = refl
says_back (case.Addresses count) v e = ap (λ (n : ℕ). case.Addresses n) (sym e.counted)
says_back (case.Pairs count) v e = ap (λ (n : ℕ). case.Pairs n) (sym e.counted)
says_back (case.Byte n) v e = refl
says_back (case.YesNo t) v e = refl
says_back (case.U16 n) v e = refl
says_back (case.U16s count) v e = ap (λ (n : ℕ). case.U16s n) (sym e.counted)
says_back (case.U32 n) v e = refl
says_back (case.I32 z) v e = refl
says_back case.Text v e = refl
says_back (case.Codes count) v e = ap (λ (n : ℕ). case.Codes n) (sym e.counted)
says_back (case.NodeType node) v e = ap (λ (n : Node). case.NodeType n) (ap node_back (sym e.named) ∙ node-back node)
says_back (case.MessageType n) v e = refl
says_back (case.ThreeBytes a b c) v e = refl
says_back case.Flag v e = refl

-- and an element
entry_back : rfc.Element → Element
entry_back e =
    let first = get_or e.entries 0 0 in
    cond (eqb e.kind 2) (element.Address first)
    (cond (eqb e.kind 3) (element.Pair first (get_or e.entries 1 0))
    (cond (eqb e.kind 7) (element.U16 first) (element.Code first)))

entry-back : (e : Element) → entry_back (entry_says e) ≡ e
unfolding entry_back
entry-back (element.Address n) = refl
entry-back (element.Pair a b) = refl
entry-back (element.U16 n) = refl
entry-back (element.Code n) = refl

-- with what is said of it taken back, an answer of the definitions is what the code's answer tells
module _ {A B : Type 0} (back : A → B) where
  answer_back : Answer A → Answer B
  answer_back answer = and_then answer (λ (x : A). given (back x))

  given-back : {r : B} {x : A} {answer : Answer A} → back x ≡ r → given x ≡ answer → given r ≡ answer_back answer
  unfolding answer_back and_then
  given-back e told = ap (λ (y : B). given y) (sym e) ∙ ap answer_back told

  refused-back : (e : Refusal) {answer : Answer A} → refusal.says e ≡ answer → refusal.says e ≡ answer_back answer
  unfolding answer_back
  refused-back e told = sym (says_then (λ (x : A). given (back x)) e) ∙ ap answer_back told

reading-back : (v : List ℕ) (answer : Answer rfc.Value) (r : Result Value Refusal) → ReadAs v answer r → told r ≡ answer_back back answer
reading-back v answer (Ok r) t = given-back back (says_back r v t.exact) t.told
reading-back v answer (Err e) t = refused-back back e t

element-back : (answer : Answer rfc.Element) (r : Result Element Refusal) → element_says r ≡ answer → told r ≡ answer_back entry_back answer
element-back answer (Ok e) t = given-back entry_back (entry-back e) t
element-back answer (Err e) t = refused-back entry_back e t

read_unique : Unique 1 read-kinds.ps read-kinds.r read.Post
read_unique κs a x y s t p q = told_one x y (reading-back _ _ x p ∙ sym (reading-back _ _ y q))

element_unique : Unique 1 element-kinds.ps element-kinds.r element-reads.Post
element_unique κs a x y s t p q = told_one x y (element-back _ x p ∙ sym (element-back _ y q))

node_of_unique : Unique 0 node-of-kinds.ps node-of-kinds.r node_of_lem.Post
node_of_unique κs a x y s t p q = sym (node-back x) ∙ ap node_back (p.0 ∙ sym q.0) ∙ node-back y

byte_of_unique : Unique 0 byte-of-kinds.ps byte-of-kinds.r byte_of.Post
byte_of_unique κs a x y s t p q = p ∙ sym q
