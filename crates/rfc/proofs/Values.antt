-- The laws of `specs/Values.antt`, of values: what each kind holds, and the node types.
-- Assumes nothing.
use mathlib.Core.Path.{◌≡◌, refl}
use Prim.Native.Nat.{ℕ, ◌≤◌, ◌<◌}
use mathlib.Core.Bool.{false}
use mathlib.Core.List.{List}
use native.Mathlib.Omega.{arith}
use borrow.Author.Tests.{ltb-false, eqb-true, eqb-false, not-false}
use lib.Dec.{lit<, eqb}
use lib.ListN.{length, take}
use Rattle.facts.specs.BigEndian.{number, signed}
use Rattle.facts.specs.Ranges.{lookup, within}
use Rattle.rfc.specs.Kinds.{size_of, sizes}
use Rattle.rfc.specs.Values.{Content, raw, natural, integer, truth, numbers, nothing, Value, numbers_of, width_of, contents, value_of, plain, rules, rule_for, wrong_length, elements, node_of, b_node, p_node, m_node, h_node}

-- a value by its kind and what it holds
abbrev pub value : ℕ → Content → Value
value kind content = record { kind = kind; content = content }

-- the kinds that hold one element, and its bytes
pub data Scalar : ℕ → ℕ → Type 0 where
  address : Scalar 1 4
  byte : Scalar 4 1
  yes_no : Scalar 5 1
  u16 : Scalar 6 2
  u32 : Scalar 8 4
  i32 : Scalar 9 4
  node_type : Scalar 12 1
  message_type : Scalar 13 1
  three_bytes : Scalar 14 3

-- what each holds
abbrev pub holds : {kind size : ℕ} → Scalar kind size → List ℕ → Content
holds address v = natural (number (take 4 v))
holds byte v = natural (number (take 1 v))
holds yes_no v = truth (eqb (number (take 1 v)) 1)
holds u16 v = natural (number (take 2 v))
holds u32 v = natural (number (take 4 v))
holds i32 v = integer (signed (number (take 4 v)))
holds node_type v = natural (number (take 1 v))
holds message_type v = natural (number (take 1 v))
holds three_bytes v = raw (take 3 v)

-- what is so of each: it is no pairs, no text and no flag; it reads as what it holds; it is no list; and where its length is right, it has
-- all its bytes
record Is {kind size : ℕ} (k : Scalar kind size) : Type 0 where
  about : (size_of kind ≡ size) × (kind < 15) × (eqb kind 3 ≡ false) × (eqb kind 10 ≡ false)
  reads : (v : List ℕ) → value_of kind v ≡ value kind (holds k v)
  single : (v : List ℕ) → length (elements (value kind (holds k v))) ≡ 0
  fits : (v : List ℕ) → wrong_length plain kind v ≡ false → size ≤ length v

is : {kind size : ℕ} (k : Scalar kind size) → Is k
unfolding value_of contents lookup within size_of sizes elements wrong_length rule_for rules
is address = record { about = (refl, lit< tt, refl, refl); reads = λ v. refl; single = λ v. refl; fits = exact }
  where
    exact : (v : List ℕ) → wrong_length plain 1 v ≡ false → 4 ≤ length v
    exact v e = omega (arith, eqb-true (length v) 4 (not-false _ e))
is byte = record { about = (refl, lit< tt, refl, refl); reads = λ v. refl; single = λ v. refl; fits = λ v e. ltb-false _ 1 e }
is yes_no = record { about = (refl, lit< tt, refl, refl); reads = λ v. refl; single = λ v. refl; fits = λ v e. ltb-false _ 1 e }
is u16 = record { about = (refl, lit< tt, refl, refl); reads = λ v. refl; single = λ v. refl; fits = λ v e. ltb-false _ 2 e }
is u32 = record { about = (refl, lit< tt, refl, refl); reads = λ v. refl; single = λ v. refl; fits = λ v e. ltb-false _ 4 e }
is i32 = record { about = (refl, lit< tt, refl, refl); reads = λ v. refl; single = λ v. refl; fits = λ v e. ltb-false _ 4 e }
is node_type = record { about = (refl, lit< tt, refl, refl); reads = λ v. refl; single = λ v. refl; fits = λ v e. ltb-false _ 1 e }
is message_type = record { about = (refl, lit< tt, refl, refl); reads = λ v. refl; single = λ v. refl; fits = λ v e. ltb-false _ 1 e }
is three_bytes = record { about = (refl, lit< tt, refl, refl); reads = λ v. refl; single = λ v. refl; fits = λ v e. ltb-false _ 3 e }

pub scalar_kind : {kind size : ℕ} → Scalar kind size → (size_of kind ≡ size) × (kind < 15) × (kind ≡ 3 → ⊥) × (kind ≡ 10 → ⊥)
scalar_kind {kind} k = let a = (is k).about in (a.0, a.1, eqb-false kind 3 a.2, eqb-false kind 10 a.3)

-- the kinds that are lists: the bytes of one number, and the numbers of one element
pub data Listed : ℕ → ℕ → ℕ → Type 0 where
  addresses : Listed 2 4 1
  pairs : Listed 3 4 2
  u16s : Listed 7 2 1
  codes : Listed 11 1 1

module _ (v : List ℕ) where
  pub kind_kept : (kind : ℕ) → (value_of kind v).kind ≡ kind
  unfolding value_of
  kind_kept kind = refl

  pub raw_value : value_of 0 v ≡ value 0 (raw v)
  unfolding value_of contents lookup within
  raw_value = refl

  pub text_value : value_of 10 v ≡ value 10 (raw v)
  unfolding value_of contents lookup within
  text_value = refl

  pub flag_value : value_of 15 v ≡ value 15 nothing
  unfolding value_of contents lookup within
  flag_value = refl

  pub scalar_value : {kind size : ℕ} (k : Scalar kind size) → value_of kind v ≡ value kind (holds k v)
  scalar_value k = (is k).reads v

  pub listed_value : {kind width n : ℕ} → Listed kind width n → value_of kind v ≡ value kind (numbers (numbers_of width v))
  unfolding value_of contents lookup within width_of
  listed_value addresses = refl
  listed_value pairs = refl
  listed_value u16s = refl
  listed_value codes = refl

-- the node types by their bytes
pub named : (node_of 1 ≡ b_node) × (node_of 2 ≡ p_node) × (node_of 4 ≡ m_node) × (node_of 8 ≡ h_node)
unfolding node_of lookup within
named = (refl, refl, refl, refl)
