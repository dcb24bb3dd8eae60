-- Codes by first appearance (`codes_of` of `specs/Aggregate.antt`): each that appears is listed, once; what one part more does; and how many
-- there can be.
-- Assumes nothing.
use mathlib.Core.Path.{◌≡◌, refl, sym, ap, subst, ◌∙◌}
use Prim.Native.Nat.{ℕ, suc, ◌≤◌, ◌<◌}
use native.Mathlib.Omega.{arith}
use mathlib.Core.List.{List, [], ◌∷◌, ◌++◌, append-nil}
use mathlib.Core.Bool.{Bool, true, false, cond}
use lib.ListN.{length, drop}
use lib.Dec.{eqb}
use borrow.Author.Tests.{eqb-true, eqb-false}
use Rattle.facts.specs.Distinct.{without}
use Rattle.facts.proofs.Distinct.{At, here, later, at_index, at_later, without_keeps, without_none, without_from, without_end, without_other, without_same}
use Rattle.facts.proofs.Distinct.{Once, once_without, few_once}
use Rattle.rfc.specs.Numbers.{pad_code, end_code}
use Rattle.rfc.specs.Lists.{Bytes}
use Rattle.rfc.specs.Portions.{Portion, whole, portions, of_code}
use Rattle.rfc.specs.Aggregate.{fields_of, aggregate, codes_of}
use Rattle.rfc.proofs.Standing.{AllInPlace, whole_in_place, all_in_place}

pub codes_none : codes_of [] ≡ []
unfolding codes_of
codes_none = refl

pub listed_all : (code : ℕ) (ps : List Portion) (p : Portion) (qs : List Portion) → of_code code ps ≡ p ∷ qs → (i : ℕ) × At code i (codes_of ps)
unfolding of_code codes_of
listed_all code [] p qs e = absurd (let z : ◌≡◌ {A = ℕ} 0 (suc (length qs)) = ap length e in omega arith)
listed_all code (x ∷ ps) p qs e = go (eqb x.code code) refl e (listed_all code ps p qs)
  where
    go : (t : Bool) → eqb x.code code ≡ t → cond t (x ∷ of_code code ps) (of_code code ps) ≡ p ∷ qs
        → (of_code code ps ≡ p ∷ qs → (i : ℕ) × At code i (codes_of ps)) → (i : ℕ) × At code i (x.code ∷ without x.code (codes_of ps))
    go true q f r = (0, subst (λ (c : ℕ). At c 0 (x.code ∷ without x.code (codes_of ps))) (eqb-true x.code code q) (here x.code _))
    go false q f r =
        let s = r f in
        let k = without_keeps x.code (λ z. eqb-false x.code code q (sym z)) s.1 in
        (suc k.0, later code x.code k.0 _ k.1)

pub not_listed : (code : ℕ) (ps : List Portion) → ((i : ℕ) → At code i (codes_of ps) → ⊥) → of_code code ps ≡ []
not_listed code ps n = none (of_code code ps) refl
  where
    none : (l : List Portion) → of_code code ps ≡ l → of_code code ps ≡ []
    none [] e = e
    none (p ∷ l) e = absurd (let r = listed_all code ps p l e in n r.0 r.1)

-- and a code that is listed has parts
pub listed_has : (code : ℕ) (ps : List Portion) (i : ℕ) → At code i (codes_of ps) → (p : Portion) × (qs : List Portion) × (of_code code ps ≡ p ∷ qs)
unfolding of_code codes_of
listed_has code [] i a = absurd (let r = at_index a in omega (arith, r.0))
listed_has code (x ∷ ps) i a = go (eqb x.code code) refl (listed_has code ps)
  where
    go : (t : Bool) → eqb x.code code ≡ t
        → ((j : ℕ) → At code j (codes_of ps) → (p : Portion) × (qs : List Portion) × (of_code code ps ≡ p ∷ qs))
        → (p : Portion) × (qs : List Portion) × (cond t (x ∷ of_code code ps) (of_code code ps) ≡ p ∷ qs)
    go true e r = (x, of_code code ps, refl)
    go false e r =
        let b = at_later (eqb-false x.code code e) a in
        let c = without_from x.code (codes_of ps) b.0 b.1 in
        r c.0 c.1

pub codes_once : (ps : List Portion) → Once (codes_of ps)
unfolding codes_of
codes_once [] = tt
codes_once (p ∷ ps) = (without_none p.code (codes_of ps), once_without p.code (codes_of ps) (codes_once ps))

-- one part more behind others: its code is listed already, or is listed last
pub data Further (ps : List Portion) (p : Portion) : Type 0 where
  again : (i : ℕ) → At p.code i (codes_of ps) → codes_of (ps ++ p ∷ []) ≡ codes_of ps → Further ps p
  first : ((i : ℕ) → At p.code i (codes_of ps) → ⊥) → codes_of (ps ++ p ∷ []) ≡ codes_of ps ++ p.code ∷ [] → Further ps p

pub further : (ps : List Portion) (p : Portion) → Further ps p
unfolding codes_of
further [] p =
    let none : (i : ℕ) → At p.code i [] → ⊥ = λ i a. let r = at_index a in omega (arith, r.0) in
    first none (ap (λ (l : List ℕ). p.code ∷ l) (without_same p.code [] none))
further (q ∷ ps) p = go (eqb q.code p.code) refl (further ps p)
  where
    behind : List ℕ → List ℕ
    behind l = q.code ∷ without q.code l

    go : (t : Bool) → eqb q.code p.code ≡ t → Further ps p → Further (q ∷ ps) p
    go true w (again i a e) =
        again 0 (subst (λ (c : ℕ). At c 0 (codes_of (q ∷ ps))) (eqb-true q.code p.code w) (here q.code _)) (ap behind e)
    go true w (first n e) =
        let same = eqb-true q.code p.code w in
        again 0 (subst (λ (c : ℕ). At c 0 (codes_of (q ∷ ps))) same (here q.code _))
        (ap behind e ∙ ap (λ (l : List ℕ). q.code ∷ l) (without_end q.code p.code (codes_of ps) (sym same)))
    go false w (again i a e) =
        let k = without_keeps q.code (λ z. eqb-false q.code p.code w (sym z)) a in
        again (suc k.0) (later p.code q.code k.0 _ k.1) (ap behind e)
    go false w (first n e) =
        let other = eqb-false q.code p.code w in
        first
        (λ i a. let b = at_later other a in let c = without_from q.code (codes_of ps) b.0 b.1 in n c.0 c.1)
        (ap behind e ∙ ap (λ (l : List ℕ). q.code ∷ l) (without_other q.code p.code (codes_of ps) (λ z. other (sym z))))

-- a code of an option: neither Pad nor End
abbrev IsCode : ℕ → Type 0
IsCode code = (1 ≤ code) × (code < 255)

-- parts of such codes
abbrev pub Coded : List Portion → Type 0
Coded [] = Unit {0}
Coded (p ∷ ps) = IsCode p.code × Coded ps

pub coded_append : (ps qs : List Portion) → Coded ps → Coded qs → Coded (ps ++ qs)
coded_append [] qs h g = g
coded_append (p ∷ ps) qs h g = (h.0, coded_append ps qs h.1 g)

listed_coded : (ps : List Portion) → Coded ps → (code i : ℕ) → At code i (codes_of ps) → IsCode code
unfolding codes_of
listed_coded [] h code i a = elim a [ ]
listed_coded (p ∷ ps) h code i a = go (eqb p.code code) refl (listed_coded ps h.1 code)
  where
    go : (t : Bool) → eqb p.code code ≡ t → ((j : ℕ) → At code j (codes_of ps) → IsCode code) → IsCode code
    go true e r = subst IsCode (eqb-true p.code code e) h.0
    go false e r = let b = at_later (eqb-false p.code code e) a in let c = without_from p.code _ b.0 b.1 in r c.0 c.1

-- so are those that stand in bytes
coded_in_place : (message : List ℕ) (ps : List Portion) → Bytes message → AllInPlace message ps → Coded ps
coded_in_place message [] b h = tt
coded_in_place message (p ∷ ps) b h =
    let s = h.0 in
    let z : p.code ≡ pad_code → ⊥ = s.no_pad in
    let e : p.code ≡ end_code → ⊥ = s.no_end in
    ((omega arith, omega (arith, s.byte b)), coded_in_place message ps b h.1)

pub coded_field : (at : ℕ) (bytes : List ℕ) (ps : List Portion) → Bytes bytes → portions at (drop at bytes) ≡ whole ps → Coded ps
coded_field at bytes ps b e = coded_in_place bytes ps b (whole_in_place bytes at (drop at bytes) [] ps (sym (append-nil _)) e)

-- so there are no more than 254
pub few_listed : (ps : List Portion) → Coded ps → length (codes_of ps) ≤ 254
few_listed ps h = few_once 1 254 (codes_of ps) (codes_once ps) (listed_coded ps h)

pub few_codes : (message : List ℕ) → Bytes message → length (codes_of (aggregate (fields_of message))) ≤ 254
few_codes message h =
    let ps : List Portion = aggregate (fields_of message) in
    few_listed ps (coded_in_place message ps h (all_in_place message))
