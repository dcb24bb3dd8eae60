-- The laws of `specs/Numbers.antt`: what each test says, and which check decides.
-- Assumes nothing.
use mathlib.Core.Path.{◌≡◌, refl, sym, subst, ◌∙◌}
use Prim.Native.Nat.{ℕ, zero, suc, ◌+◌, ◌≤◌, ◌<◌}
use mathlib.Core.Bool.{Bool, true, false}
use mathlib.Core.List.{List, [], ◌∷◌, ◌++◌}
use native.Mathlib.Omega.{arith}
use lib.ListN.{length}
use borrow.Author.Tests.{lt-ltb, le-ltb, ltb-false, eq-eqb, ne_eqb}
use Rattle.rfc.specs.Numbers.{Answer, given, refused, needs, and_then, least_message, most_bytes, most_value, pad_code, end_code, too_long, too_short, past_end, no_code, too_much, no_room, Check, check, checked, first_refusal}
use Rattle.rfc.specs.Typed.{code_checks}

-- the check of this number is the first whose test holds
pub data Refuses : List Check → ℕ → Type 0 where
  here : {test : Bool} {n : ℕ} {cs : List Check} → test ≡ true → Refuses (check test n ∷ cs) n
  later : {test : Bool} {k n : ℕ} {cs : List Check} → test ≡ false → Refuses cs n → Refuses (check test k ∷ cs) n

pub refuses : {A : Type 0} {cs : List Check} {n : ℕ} (answer : Answer A) → Refuses cs n → checked cs answer ≡ refused n
unfolding checked
refuses answer (here e) = rw e
refuses answer (later e r) = rw e (refuses answer r)

-- no test holds
pub data Clear : List Check → Type 0 where
  done : Clear []
  next : {test : Bool} {n : ℕ} {cs : List Check} → test ≡ false → Clear cs → Clear (check test n ∷ cs)

pub clears : {A : Type 0} {cs : List Check} (answer : Answer A) → Clear cs → checked cs answer ≡ answer
unfolding checked
clears answer done = refl
clears answer (next e c) = rw e (clears answer c)

-- where no number is given, no test held, and what was given is the answer behind the checks
pub passes : {A : Type 0} (cs : List Check) (a b : Answer A) → ((k : ℕ) → b ≡ refused k → ⊥) → checked cs a ≡ b
    → Clear cs × (a ≡ b)
unfolding checked
passes [] a b n e = (done, e)
passes (check true k ∷ cs) a b n e = absurd (n k (sym e))
passes (check false k ∷ cs) a b n e = let r = passes cs a b n e in (next refl r.0, r.1)

pub clear_last : (cs : List Check) (test : Bool) (n : ℕ) → Clear (cs ++ check test n ∷ []) → test ≡ false
clear_last [] test n (next e c) = e
clear_last (check t k ∷ cs) test n (next e c) = clear_last cs test n c

pub clear_front : (cs ds : List Check) → Clear (cs ++ ds) → Clear cs
clear_front [] ds c = done
clear_front (check t k ∷ cs) ds (next e c) = next e (clear_front cs ds c)

-- what is given is no refusal by a number, and neither is 5
pub given_no : {A : Type 0} (a : A) (k : ℕ) → given a ≡ refused k → ⊥
given_no a k e = let z : ◌≡◌ {A = ℕ} 0 1 = cc in omega arith

pub needs_no : {A : Type 0} (n k : ℕ) → ◌≡◌ {A = Answer A} (needs n) (refused k) → ⊥
needs_no n k e = let z : ◌≡◌ {A = ℕ} 0 1 = cc in omega arith

-- a number that checks give before what is given is that of one of them
pub refused_by : {A : Type 0} (cs : List Check) (a : A) (k : ℕ) → checked cs (given a) ≡ refused k → Refuses cs k
unfolding checked
refused_by [] a k e = absurd (given_no a k e)
refused_by (check true n ∷ cs) a k e = let same : n ≡ k = cc in subst (Refuses (check true n ∷ cs)) same (here refl)
refused_by (check false n ∷ cs) a k e = later refl (refused_by cs a k e)

-- the number of the first refusal, or 0
pub first_is : {cs : List Check} {n : ℕ} → Refuses cs n → first_refusal cs ≡ n
unfolding first_refusal
first_is (here e) = rw e
first_is (later e r) = rw e (first_is r)

pub none_first : {cs : List Check} → Clear cs → first_refusal cs ≡ 0
unfolding first_refusal
none_first done = refl
none_first (next e c) = rw e (none_first c)

-- of checks before others
pub first_front : (cs ds : List Check) → 0 < first_refusal cs → first_refusal (cs ++ ds) ≡ first_refusal cs
unfolding first_refusal
first_front [] ds h = absurd (omega arith)
first_front (check true k ∷ cs) ds h = refl
first_front (check false k ∷ cs) ds h = first_front cs ds h

pub first_behind : (cs ds : List Check) → Clear cs → first_refusal (cs ++ ds) ≡ first_refusal ds
unfolding first_refusal
first_behind [] ds c = refl
first_behind (check t k ∷ cs) ds (next e c) = rw e (first_behind cs ds c)

-- and back: a number above 0 is that of the check that refuses; 0 is none, where each check's number is above 0
pub is_first : (cs : List Check) {n : ℕ} → n ≡ first_refusal cs → 0 < n → Refuses cs n
unfolding first_refusal
is_first [] e h = absurd (omega arith)
is_first (check true k ∷ cs) e h = rw e (here refl)
is_first (check false k ∷ cs) e h = later refl (is_first cs e h)

abbrev pub Numbered : List Check → Type 0
Numbered [] = Unit {0}
Numbered (check test zero ∷ cs) = ⊥
Numbered (check test (suc n) ∷ cs) = Numbered cs

pub numbered_both : (cs ds : List Check) → Numbered cs → Numbered ds → Numbered (cs ++ ds)
numbered_both [] ds c d = d
numbered_both (check test zero ∷ cs) ds c d = absurd c
numbered_both (check test (suc n) ∷ cs) ds c d = numbered_both cs ds c d

pub is_none : (cs : List Check) {n : ℕ} → Numbered cs → n ≡ first_refusal cs → n ≤ 0 → Clear cs
unfolding first_refusal
is_none [] p e h = done
is_none (check test zero ∷ cs) p e h = absurd p
is_none (check true (suc k) ∷ cs) p e h = absurd (omega arith)
is_none (check false (suc k) ∷ cs) p e h = next refl (is_none cs p e h)

-- so the checks of a message, and those of a code
pub code_none : (kind code : ℕ) (room : List ℕ) (place : ℕ) {n : ℕ} → n ≡ first_refusal (code_checks kind code room place) → n ≤ 0
    → Clear (code_checks kind code room place)
unfolding code_checks
code_none kind code room place = is_none _ tt

-- checks behind others
pub refuses_front : {cs : List Check} {n : ℕ} (ds : List Check) → Refuses cs n → Refuses (cs ++ ds) n
refuses_front ds (here e) = here e
refuses_front ds (later e r) = later e (refuses_front ds r)

pub refuses_behind : {cs ds : List Check} {n : ℕ} → Clear cs → Refuses ds n → Refuses (cs ++ ds) n
refuses_behind done r = r
refuses_behind (next e c) r = later e (refuses_behind c r)

-- and back
pub refuses_later : (cs : List Check) {ds : List Check} {k : ℕ} → Clear cs → Refuses (cs ++ ds) k → Refuses ds k
refuses_later [] c r = r
refuses_later (check t n ∷ cs) (next e c) (here h) = absurd (let z : ◌≡◌ {A = ℕ} 0 1 = cc (sym e ∙ h) in omega arith)
refuses_later (check t n ∷ cs) (next e c) (later h r) = refuses_later cs c r

pub clear_behind : (cs : List Check) {ds : List Check} → Clear (cs ++ ds) → Clear ds
clear_behind [] c = c
clear_behind (check t n ∷ cs) (next e c) = clear_behind cs c

pub clear_both : {cs ds : List Check} → Clear cs → Clear ds → Clear (cs ++ ds)
clear_both done d = d
clear_both (next e c) d = next e (clear_both c d)

-- more is made of what is given; a refusal stands, whatever would be made
pub given_goes_on : {A B : Type 0} (f : A → Answer B) (a : A) → and_then (given a) f ≡ f a
unfolding and_then
given_goes_on f a = refl

pub refused_stands : {A B : Type 0} (f : A → Answer B) (k : ℕ) → and_then (refused k) f ≡ refused k
unfolding and_then
refused_stands f k = refl

pub needs_stands : {A B : Type 0} (f : A → Answer B) (n : ℕ) → and_then (needs n) f ≡ needs n
unfolding and_then
needs_stands f n = refl

-- 2
pub long : (bytes : List ℕ) → most_bytes < length bytes → too_long bytes ≡ true
unfolding too_long
long bytes h = lt-ltb most_bytes (length bytes) h

pub not_long : (bytes : List ℕ) → length bytes ≤ most_bytes → too_long bytes ≡ false
unfolding too_long
not_long bytes h = le-ltb most_bytes (length bytes) h

pub not_too_long : (bytes : List ℕ) → too_long bytes ≡ false → length bytes ≤ most_bytes
unfolding too_long
not_too_long bytes e = ltb-false most_bytes (length bytes) e

-- 1
pub short : (message : List ℕ) → length message < least_message → too_short message ≡ true
unfolding too_short
short message h = lt-ltb (length message) least_message h

pub not_short : (message : List ℕ) → least_message ≤ length message → too_short message ≡ false
unfolding too_short
not_short message h = le-ltb (length message) least_message h

pub long_enough : (message : List ℕ) → too_short message ≡ false → least_message ≤ length message
unfolding too_short
long_enough message e = ltb-false (length message) least_message e

-- 4
pub past : (place : ℕ) (bytes : List ℕ) → length bytes < place → past_end place bytes ≡ true
unfolding past_end
past place bytes h = lt-ltb (length bytes) place h

pub not_past : (place : ℕ) (bytes : List ℕ) → place ≤ length bytes → past_end place bytes ≡ false
unfolding past_end
not_past place bytes h = le-ltb (length bytes) place h

pub place_within : (place : ℕ) (bytes : List ℕ) → past_end place bytes ≡ false → place ≤ length bytes
unfolding past_end
place_within place bytes e = ltb-false (length bytes) place e

-- 6
pub pad-code : (code : ℕ) → code ≡ pad_code → no_code code ≡ true
unfolding no_code
pad-code code e = rw (eq-eqb code pad_code e)

pub end-code : (code : ℕ) → (code ≡ pad_code → ⊥) → code ≡ end_code → no_code code ≡ true
unfolding no_code
end-code code n e = rw (ne_eqb code pad_code n, eq-eqb code end_code e)

pub a_code : (code : ℕ) → (code ≡ pad_code → ⊥) → (code ≡ end_code → ⊥) → no_code code ≡ false
unfolding no_code
a_code code n m = rw (ne_eqb code pad_code n, ne_eqb code end_code m)

pub no_pad : (code : ℕ) → no_code code ≡ false → code ≡ pad_code → ⊥
no_pad code e z = let f : true ≡ false = sym (pad-code code z) ∙ e in let n : ◌≡◌ {A = ℕ} 0 1 = cc in omega arith

pub no_end : (code : ℕ) → no_code code ≡ false → code ≡ end_code → ⊥
no_end code e z =
    let f : true ≡ false = sym (end-code code (no_pad code e) z) ∙ e in let n : ◌≡◌ {A = ℕ} 0 1 = cc in omega arith

-- 7
pub much : (value : List ℕ) → most_value < length value → too_much value ≡ true
unfolding too_much
much value h = lt-ltb most_value (length value) h

pub not_much : (value : List ℕ) → length value ≤ most_value → too_much value ≡ false
unfolding too_much
not_much value h = le-ltb most_value (length value) h

pub not_too_much : (value : List ℕ) → too_much value ≡ false → length value ≤ most_value
unfolding too_much
not_too_much value e = ltb-false most_value (length value) e

-- 8
pub full : (room : List ℕ) (place : ℕ) (bytes : List ℕ) → length room < place + length bytes → no_room room place bytes ≡ true
unfolding no_room
full room place bytes h = lt-ltb (length room) (place + length bytes) h

pub not_full : (room : List ℕ) (place : ℕ) (bytes : List ℕ) → place + length bytes ≤ length room → no_room room place bytes ≡ false
unfolding no_room
not_full room place bytes h = le-ltb (length room) (place + length bytes) h

pub room-left : (room : List ℕ) (place : ℕ) (bytes : List ℕ) → no_room room place bytes ≡ false → place + length bytes ≤ length room
unfolding no_room
room-left room place bytes e = ltb-false (length room) (place + length bytes) e
