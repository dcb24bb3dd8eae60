-- The laws of `specs/Distinct.antt`: what stays of a list without one number, and lists in which no number stands twice.
-- Assumes nothing.
use mathlib.Core.Path.{◌≡◌, refl, sym, ap, subst, ◌∙◌}
use Prim.Native.Nat.{ℕ, suc, zero, ◌+◌, ◌≤◌, ◌<◌}
use native.Mathlib.Omega.{arith}
use mathlib.Core.List.{List, [], ◌∷◌, ◌++◌, append-nil}
use mathlib.Core.Bool.{Bool, true, false, cond}
use lib.ListN.{length, take, get_or}
use lib.Dec.{eqb}
use borrow.Author.Tests.{eq-eqb, ne_eqb, eqb-true, eqb-false}
use Rattle.facts.specs.Distinct.{without}

-- a number of a list, by where it stands
pub data At : ℕ → ℕ → List ℕ → Type 0 where
  here : (n : ℕ) (ns : List ℕ) → At n 0 (n ∷ ns)
  later : (n m i : ℕ) (ns : List ℕ) → At n i ns → At n (suc i) (m ∷ ns)

pub at_index : {n i : ℕ} {ns : List ℕ} → At n i ns → (i < length ns) × (get_or ns i 0 ≡ n)
at_index (here n ns) = (omega arith, refl)
at_index (later n m i ns a) = let r = at_index a in (omega (arith, r.0), r.1)

pub index_at : (ns : List ℕ) (i : ℕ) → i < length ns → At (get_or ns i 0) i ns
index_at [] i h = absurd (omega arith)
index_at (n ∷ ns) zero h = here n ns
index_at (n ∷ ns) (suc i) h = later (get_or ns i 0) n i ns (index_at ns i (omega arith))

-- another number stays
pub without_keeps : {n i : ℕ} {ns : List ℕ} (k : ℕ) → (n ≡ k → ⊥) → At n i ns → (j : ℕ) × At n j (without k ns)
unfolding without
without_keeps k d (here n ns) = (0, rw (ne_eqb n k d) (here n (without k ns)))
without_keeps k d (later n m i ns a) = go (eqb m k) (without_keeps k d a)
  where
    go : (t : Bool) → (j : ℕ) × At n j (without k ns) → (j : ℕ) × At n j (cond t (without k ns) (m ∷ without k ns))
    go true r = r
    go false r = (suc r.0, later n m r.0 (without k ns) r.1)

-- at the front, or behind it
data Split (n m : ℕ) (ns : List ℕ) : Type 0 where
  first : n ≡ m → Split n m ns
  rest : (j : ℕ) → At n j ns → Split n m ns

split : {n m i : ℕ} {ns : List ℕ} → At n i (m ∷ ns) → Split n m ns
split (here n ns) = first refl
split (later n m i ns a) = rest i a

-- the same, with the place
data Parted (n m i : ℕ) (ns : List ℕ) : Type 0 where
  front : n ≡ m → i ≡ 0 → Parted n m i ns
  back : (j : ℕ) → i ≡ suc j → At n j ns → Parted n m i ns

parted : {n m i : ℕ} {ns : List ℕ} → At n i (m ∷ ns) → Parted n m i ns
parted (here n ns) = front refl refl
parted (later n m i ns a) = back i refl a

-- another number than the first stands behind it
pub at_later : {n m i : ℕ} {ns : List ℕ} → (m ≡ n → ⊥) → At n i (m ∷ ns) → (j : ℕ) × At n j ns
at_later {n} {m} {i} {ns} d a = go (split a)
  where
    go : Split n m ns → (j : ℕ) × At n j ns
    go (first e) = absurd (d (sym e))
    go (rest j b) = (j, b)

-- one number more at the end: the others stand where they stood, and it stands behind them
pub at_front : {n i : ℕ} {ns : List ℕ} (ms : List ℕ) → At n i ns → At n i (ns ++ ms)
at_front ms (here n ns) = here n (ns ++ ms)
at_front ms (later n m i ns a) = later n m i (ns ++ ms) (at_front ms a)

pub at-end : (n : ℕ) (ns : List ℕ) → At n (length ns) (ns ++ n ∷ [])
at-end n [] = here n []
at-end n (m ∷ ns) = later n m (length ns) (ns ++ n ∷ []) (at-end n ns)

pub not_end : {n m i : ℕ} (ns : List ℕ) → (m ≡ n → ⊥) → At n i (ns ++ m ∷ []) → At n i ns
not_end [] d a = absurd (let b = at_later d a in let r = at_index b.1 in omega (arith, r.0))
not_end (k ∷ ns) d (here _ _) = here k ns
not_end (k ∷ ns) d (later n _ i _ a) = later n k i ns (not_end ns d a)

pub end_only : {n i : ℕ} (ns : List ℕ) → ((j : ℕ) → At n j ns → ⊥) → At n i (ns ++ n ∷ []) → i ≡ length ns
end_only [] o a = let r = at_index a in omega (arith, r.0)
end_only {n = n} {i = i} (k ∷ ns) o a = go (parted a) (λ j. end_only {n = n} {i = j} ns (λ l b. o (suc l) (later n k l ns b)))
  where
    go : Parted n k i (ns ++ n ∷ []) → ((j : ℕ) → At n j (ns ++ n ∷ []) → j ≡ length ns) → i ≡ suc (length ns)
    go (front q z) r = absurd (o 0 (subst (λ (c : ℕ). At c 0 (k ∷ ns)) (sym q) (here k ns)))
    go (back j e b) r = e ∙ ap suc (r j b)

-- and this one is gone
pub without_none : (k : ℕ) (ns : List ℕ) (i : ℕ) → At k i (without k ns) → ⊥
unfolding without
without_none k [] i a = elim a [ ]
without_none k (n ∷ ns) i a = go (eqb n k) refl a (without_none k ns)
  where
    front : eqb n k ≡ false → ((l : ℕ) → At k l (without k ns) → ⊥) → Split k n (without k ns) → ⊥
    front e r (first q) = eqb-false n k e (sym q)
    front e r (rest l b) = r l b

    go : (t : Bool) → eqb n k ≡ t → At k i (cond t (without k ns) (n ∷ without k ns)) → ((l : ℕ) → At k l (without k ns) → ⊥) → ⊥
    go true e b r = r i b
    go false e b r = front e r (split b)

-- what is left was there
pub without_from : {n : ℕ} (k : ℕ) (ns : List ℕ) (i : ℕ) → At n i (without k ns) → (j : ℕ) × At n j ns
unfolding without
without_from {n = n} k [] i a = elim a [ ]
without_from {n = n} k (m ∷ ns) i a = go (eqb m k) a (without_from {n = n} k ns)
  where
    front : ((l : ℕ) → At n l (without k ns) → (j : ℕ) × At n j ns) → Split n m (without k ns) → (j : ℕ) × At n j (m ∷ ns)
    front r (first q) = (0, subst (λ (c : ℕ). At c 0 (m ∷ ns)) (sym q) (here m ns))
    front r (rest l b) = let s = r l b in (suc s.0, later n m s.0 ns s.1)

    go : (t : Bool) → At n i (cond t (without k ns) (m ∷ without k ns)) → ((l : ℕ) → At n l (without k ns) → (j : ℕ) × At n j ns)
        → (j : ℕ) × At n j (m ∷ ns)
    go true b r = let s = r i b in (suc s.0, later n m s.0 ns s.1)
    go false b r = front r (split b)

-- no number stands twice
abbrev pub Once : List ℕ → Type 0
Once [] = Unit {0}
Once (n ∷ ns) = ((i : ℕ) → At n i ns → ⊥) × Once ns

pub once_without : (k : ℕ) (ns : List ℕ) → Once ns → Once (without k ns)
unfolding without
once_without k [] o = tt
once_without k (n ∷ ns) o = go (eqb n k) (once_without k ns o.1)
  where
    go : (t : Bool) → Once (without k ns) → Once (cond t (without k ns) (n ∷ without k ns))
    go true r = r
    go false r = ((λ i a. let s = without_from k ns i a in o.0 s.0 s.1), r)

pub once_same : {n i j : ℕ} {ns : List ℕ} → Once ns → At n i ns → At n j ns → i ≡ j
once_same {j = j} o (here n ns) b = go (parted b)
  where
    go : Parted n n j ns → 0 ≡ j
    go (front q z) = sym z
    go (back l e c) = absurd (o.0 l c)
once_same {j = j} o (later n m i ns a) b = go (parted b) (λ l. once_same {j = l} o.1 a)
  where
    go : Parted n m j ns → ((l : ℕ) → At n l ns → i ≡ l) → suc i ≡ j
    go (front q z) r = absurd (o.0 i (subst (λ (c : ℕ). At c i ns) q a))
    go (back l e c) r = ap suc (r l c) ∙ sym e

-- a number that stands at the end goes, and another stays
without_append : (k : ℕ) (ns ms : List ℕ) → without k (ns ++ ms) ≡ without k ns ++ without k ms
unfolding without
without_append k [] ms = refl
without_append k (n ∷ ns) ms = go (eqb n k) (without_append k ns ms)
  where
    go : (t : Bool) → without k (ns ++ ms) ≡ without k ns ++ without k ms
        → cond t (without k (ns ++ ms)) (n ∷ without k (ns ++ ms)) ≡ cond t (without k ns) (n ∷ without k ns) ++ without k ms
    go true r = r
    go false r = ap (λ (l : List ℕ). n ∷ l) r

pub without_end : (k n : ℕ) (ns : List ℕ) → n ≡ k → without k (ns ++ n ∷ []) ≡ without k ns
unfolding without
without_end k n ns e = without_append k ns (n ∷ []) ∙ rw (eq-eqb n k e) (append-nil (without k ns))

pub without_other : (k n : ℕ) (ns : List ℕ) → (n ≡ k → ⊥) → without k (ns ++ n ∷ []) ≡ without k ns ++ n ∷ []
unfolding without
without_other k n ns d = without_append k ns (n ∷ []) ∙ rw (ne_eqb n k d) refl

-- without a number that is not there
pub without_same : (k : ℕ) (ns : List ℕ) → ((i : ℕ) → At k i ns → ⊥) → without k ns ≡ ns
unfolding without
without_same k [] o = refl
without_same k (n ∷ ns) o =
    let other = ne_eqb n k (λ e. o 0 (subst (λ (c : ℕ). At c 0 (n ∷ ns)) e (here n ns))) in
    rw other (ap (λ (l : List ℕ). n ∷ l) (without_same k ns (λ i a. o (suc i) (later k n i ns a))))

-- there are no more numbers than before
pub without_fewer : (k : ℕ) (ns : List ℕ) → length (without k ns) ≤ length ns
unfolding without
without_fewer k [] = omega arith
without_fewer k (n ∷ ns) = go (eqb n k) (without_fewer k ns)
  where
    go : (t : Bool) → length (without k ns) ≤ length ns → length (cond t (without k ns) (n ∷ without k ns)) ≤ suc (length ns)
    go true r = omega arith
    go false r = omega arith

-- no more than one is gone
one_fewer : (k : ℕ) (ns : List ℕ) → Once ns → length ns ≤ suc (length (without k ns))
unfolding without
one_fewer k [] o = omega arith
one_fewer k (n ∷ ns) o = go (eqb n k) refl (one_fewer k ns o.1)
  where
    go : (t : Bool) → eqb n k ≡ t → length ns ≤ suc (length (without k ns))
        → suc (length ns) ≤ suc (length (cond t (without k ns) (n ∷ without k ns)))
    go true e r =
        let gone = without_same k ns (λ i a. o.0 i (subst (λ (c : ℕ). At c i ns) (sym (eqb-true n k e)) a)) in
        omega (arith, ap length gone)
    go false e r = omega arith

-- of n numbers in a row there are no more than n
pub few_once : (a n : ℕ) (ns : List ℕ) → Once ns → ((k i : ℕ) → At k i ns → (a ≤ k) × (k < a + n)) → length ns ≤ n
few_once a zero [] o h = omega arith
few_once a zero (m ∷ ns) o h = absurd (let r = h m 0 (here m ns) in omega (arith, r.0, r.1))
few_once a (suc n) ns o h =
    let less = few_once a n (without (a + n) ns) (once_without (a + n) ns o) inside in
    omega (arith, one_fewer (a + n) ns o)
  where
    inside : (k i : ℕ) → At k i (without (a + n) ns) → (a ≤ k) × (k < a + n)
    inside k i b =
        let s = without_from (a + n) ns i b in
        let r = h k s.0 s.1 in
        let other : k ≡ a + n → ⊥ = λ e. without_none (a + n) ns i (subst (λ (c : ℕ). At c i (without (a + n) ns)) e b) in
        (r.0, omega (arith, r.1))

-- of the first k
pub at_take : {n i : ℕ} {ns : List ℕ} (k : ℕ) → i < k → At n i ns → At n i (take k ns)
at_take zero h a = absurd (omega arith)
at_take (suc k) h (here n ns) = here n (take k ns)
at_take (suc k) h (later n m i ns a) = later n m i (take k ns) (at_take k (omega arith) a)

pub take_at : {n i : ℕ} (k : ℕ) (ns : List ℕ) → At n i (take k ns) → (i < k) × At n i ns
take_at zero ns a = absurd (let r = at_index a in omega (arith, r.0))
take_at (suc k) [] a = absurd (let r = at_index a in omega (arith, r.0))
take_at (suc k) (m ∷ ns) (here _ _) = (omega arith, here m ns)
take_at (suc k) (m ∷ ns) (later n _ i _ a) = let r = take_at k ns a in (omega (arith, r.0), later n m i ns r.1)

pub once_take : (k : ℕ) (ns : List ℕ) → Once ns → Once (take k ns)
once_take zero ns o = tt
once_take (suc k) [] o = tt
once_take (suc k) (n ∷ ns) o = ((λ i a. o.0 i (take_at k ns a).1), once_take k ns o.1)
