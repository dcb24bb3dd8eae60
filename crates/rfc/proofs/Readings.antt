-- The laws of `specs/Values.antt`, of readings: the tests of 10, 11 and 14, which check decides, and whole options.
-- Assumes nothing.
use mathlib.Core.Path.{◌≡◌, refl, sym, ap, ◌∙◌}
use Prim.Native.Nat.{ℕ, suc, ◌≤◌, ◌<◌}
use mathlib.Core.Bool.{Bool, true, false, cond, not}
use mathlib.Core.List.{List, [], ◌∷◌}
use mathlib.Mathlib.Data.Bool.Basic.{or-eq-false-eq-eq-false-and-eq-false}
use native.Mathlib.Omega.{arith}
use borrow.Author.Tests.{le-ltb, eqb-true, not-false, eq-eqb, ne_eqb}
use lib.Dec.{eqb, ltb}
use lib.ListN.{length, get_or}
use Rattle.facts.specs.Ranges.{lookup, within}
use Rattle.facts.proofs.Ranges.{none_left, also, lookup_beside}
use Rattle.rfc.specs.Numbers.{Answer, given, refused, needs, most_bytes, and_then, no_code}
use Rattle.rfc.specs.Walk.{Found, Stop, stop, option}
use Rattle.rfc.specs.Kinds.{kind_of, size_of, sizes}
use Rattle.rfc.specs.Text.{utf8}
use Rattle.rfc.specs.Values.{Value, value_of, Rule, exactly, at_least, multiple, one_or_more, breaks, Mode, plain, strict, rules, rule_for, wrong_length, home_agents, length_mode, not_text, unclear, read_checks, read, stopped, valued, read_found, read_option}
use Rattle.rfc.proofs.Numbers.{here, later, refuses, Clear, done, next, clears, passes, long, not_long, given_no, refused_stands, needs_stands}

-- 10: the length by its rule
pub length_by : (mode : Mode) (kind : ℕ) (v : List ℕ) (rule : Rule) → rule_for mode kind ≡ rule
    → breaks rule (size_of kind) (length v) ≡ wrong_length mode kind v
unfolding wrong_length
length_by mode kind v rule e = ap (λ (r : Rule). breaks r (size_of kind) (length v)) (sym e)

-- a length of 0 is a multiple of any size, and any other is judged alike by both rules of elements
pub some_alike : (size len : ℕ) → (len ≡ 0 → ⊥) → breaks one_or_more size len ≡ breaks multiple size len
some_alike size len some = rw (ne_eqb len 0 some)

-- a length that strict reading accepts, plain reading accepts: the rules, row by row
strict_length : (kind : ℕ) (v : List ℕ) → wrong_length strict kind v ≡ false → wrong_length plain kind v ≡ false
unfolding wrong_length rule_for rules
strict_length kind v =
    lookup_beside Accepts (λ e. e) (also (λ e. e) (also more (also least (also more (also least (also more (also least none_left))))))) kind
  where
    Accepts : Rule → Rule → Type 0
    Accepts asked other = breaks asked (size_of kind) (length v) ≡ false → breaks other (size_of kind) (length v) ≡ false

    least : Accepts exactly at_least
    least e = let l = eqb-true (length v) (size_of kind) (not-false _ e) in le-ltb (length v) (size_of kind) (omega arith)

    more : Accepts one_or_more multiple
    more e = ((or-eq-false-eq-eq-false-and-eq-false (eqb (length v) 0) _).0 e).1

-- the mode by whose rule a code's length is judged: plain for the home agents, for other codes the one asked for
pub of_others : (mode : Mode) (code : ℕ) → (code ≡ home_agents → ⊥) → mode ≡ length_mode mode code
unfolding length_mode
of_others plain code n = refl
of_others strict code n = sym (ap (λ (t : Bool). cond t plain strict) (ne_eqb code home_agents n))

-- what holds in both modes holds in that one
pub either_mode : (P : Mode → Type 0) (code : ℕ) → P plain → P strict → P (length_mode strict code)
unfolding length_mode
either_mode P code p s = go (eqb code home_agents)
  where
    go : (t : Bool) → P (cond t plain strict)
    go true = p
    go false = s

-- so a length that is judged right is right in plain mode, and one that is right in strict mode is judged right
pub judged_plain : (mode : Mode) (code kind : ℕ) (v : List ℕ) → wrong_length (length_mode mode code) kind v ≡ false
    → wrong_length plain kind v ≡ false
unfolding length_mode
judged_plain plain code kind v e = e
judged_plain strict code kind v e =
    either_mode (λ (m : Mode). wrong_length m kind v ≡ false → wrong_length plain kind v ≡ false) code (λ f. f) (strict_length kind v) e

pub strict_judged : (code kind : ℕ) (v : List ℕ) → wrong_length strict kind v ≡ false → wrong_length (length_mode strict code) kind v ≡ false
strict_judged code kind v e = either_mode (λ (m : Mode). wrong_length m kind v ≡ false) code (strict_length kind v e) e

-- a flag whose length strict reading accepts has no bytes
pub flag_empty : (v : List ℕ) → wrong_length strict 15 v ≡ false → v ≡ []
unfolding wrong_length rule_for rules lookup within size_of sizes
flag_empty [] e = refl
flag_empty (b ∷ v) e = let z : suc (length v) ≡ 0 = eqb-true (suc (length v)) 0 (not-false _ e) in absurd (omega arith)

-- 11
pub no_text : (kind : ℕ) (v : List ℕ) → (kind ≡ 10 → ⊥) → not_text kind v ≡ false
unfolding not_text
no_text kind v n = rw (ne_eqb kind 10 n)

pub text_kind : (kind : ℕ) (v : List ℕ) → kind ≡ 10 → not_text kind v ≡ not (utf8 v)
unfolding not_text
text_kind kind v e = rw (eq-eqb kind 10 e)

-- 14
pub other_clear : (mode : Mode) (kind : ℕ) (v : List ℕ) → (kind ≡ 5 → ⊥) → unclear mode kind v ≡ false
unfolding unclear
other_clear plain kind v n = refl
other_clear strict kind v n = rw (ne_eqb kind 5 n)

pub plain_clear : (kind : ℕ) (v : List ℕ) → unclear plain kind v ≡ false
unfolding unclear
plain_clear kind v = refl

pub yes-no : (kind : ℕ) (v : List ℕ) → kind ≡ 5 → unclear strict kind v ≡ ltb 1 (get_or v 0 0)
unfolding unclear
yes-no kind v e = rw (eq-eqb kind 5 e)

-- a reading, check by check
module _ (mode : Mode) (code : ℕ) (v : List ℕ) where
  pub read_2 : most_bytes < length v → read mode code v ≡ refused 2
  unfolding read read_checks
  read_2 over = refuses _ (here (long v over))

  module _ (short : length v ≤ most_bytes) where
    -- the kind, by whatever name it goes
    module _ (some : no_code code ≡ false) {kind : ℕ} (is : kind ≡ kind_of code) where
      pub read_10 : wrong_length (length_mode mode code) kind v ≡ true → read mode code v ≡ refused 10
      unfolding read read_checks
      read_10 wrong = refuses _ (later (not_long v short) (later some (here (rw is at wrong))))

      module _ (right : wrong_length (length_mode mode code) kind v ≡ false) where
        module _ (text : not_text kind v ≡ false) where
          pub read_given : unclear mode kind v ≡ false → read mode code v ≡ given (value_of kind v)
          unfolding read read_checks
          read_given clear =
              clears _ (next (not_long v short) (next some (next (rw is at right) (next (rw is at text) (next (rw is at clear) done)))))
              ∙ ap (λ (k : ℕ). given (value_of k v)) (sym is)

-- what was read has a right length for its kind
pub read_right : (mode : Mode) (code : ℕ) (v : List ℕ) (x : Value) → read mode code v ≡ given x
    → (wrong_length plain (kind_of code) v ≡ false) × (value_of (kind_of code) v ≡ x)
unfolding read read_checks
read_right mode code v x e = go (passes _ (given (value_of (kind_of code) v)) (given x) (given_no x) e)
  where
    go : Clear (read_checks mode code v) × (given (value_of (kind_of code) v) ≡ given x)
        → (wrong_length plain (kind_of code) v ≡ false) × (value_of (kind_of code) v ≡ x)
    go (next over (next none (next len (next text (next clear done)))), same) = (judged_plain mode code (kind_of code) v len, cc)

-- what strict reading accepts, plain reading reads alike
pub strict_plain : (code : ℕ) (v : List ℕ) (x : Value) → read strict code v ≡ given x → read plain code v ≡ given x
unfolding read read_checks length_mode unclear
strict_plain code v x e = go (passes _ (given (value_of (kind_of code) v)) (given x) (given_no x) e)
  where
    go : Clear (read_checks strict code v) × (given (value_of (kind_of code) v) ≡ given x) → read plain code v ≡ given x
    go (next long (next pad (next len (next text (next yes-no done)))), same) =
        clears _ (next long (next pad (next (judged_plain strict code (kind_of code) v len) (next text (next refl done))))) ∙ same

-- a whole option: what a call of the walk refused is not read
pub option_refused : (mode : Mode) (k : ℕ) (answer : Answer Found) → answer ≡ refused k → read_option mode answer ≡ refused k
unfolding read_option
option_refused mode k answer e = ap (read_option mode) e ∙ refused_stands _ k

pub option_needs : (mode : Mode) (n : ℕ) (answer : Answer Found) → answer ≡ needs n → read_option mode answer ≡ needs n
unfolding read_option
option_needs mode n answer e = ap (read_option mode) e ∙ needs_stands _ n

-- a stop passes through
pub option_stopped : (mode : Mode) (s : Stop) (at : ℕ) → read_option mode (given (stop s at)) ≡ given (stopped s at)
unfolding read_option and_then read_found
option_stopped mode s at = refl

-- an option is read
module _ (mode : Mode) (code : ℕ) (v : List ℕ) (n at : ℕ) where
  pub value_given : (x : Value) → read mode code v ≡ given x → read_option mode (given (option code v n at)) ≡ given (valued code x at)
  unfolding read_option and_then read_found
  value_given x e = ap (λ (a : Answer Value). and_then a (λ (y : Value). given (valued code y at))) e
