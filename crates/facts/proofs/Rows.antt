-- Rows of four numbers, one behind the other, one for each number of a list: where each stands, and what one row more or another row does.
-- Assumes nothing.
use mathlib.Core.Path.{◌≡◌, refl, sym, ap, subst, ◌∙◌}
use Prim.Native.Nat.{ℕ, suc, ◌+◌, ◌*◌, ◌<◌}
use native.Mathlib.Omega.{arith}
use mathlib.Core.List.{List, [], ◌∷◌, ◌++◌, append_assoc}
use lib.ListN.{length, get_or, length-append, get_or-append}
use lib.Seq.{get_or-append-add}
use Rattle.facts.specs.Over.{over}
use Rattle.facts.proofs.Over.{over_behind, over_within, over_all}
use Rattle.facts.proofs.Distinct.{At, here, later, Once}

abbrev pub rows_for : (ℕ → List ℕ) → List ℕ → List ℕ
rows_for f [] = []
rows_for f (n ∷ ns) = f n ++ rows_for f ns

pub rows_append : (f : ℕ → List ℕ) (ns ms : List ℕ) → rows_for f (ns ++ ms) ≡ rows_for f ns ++ rows_for f ms
rows_append f [] ms = refl
rows_append f (n ∷ ns) ms = ap (λ (l : List ℕ). f n ++ l) (rows_append f ns ms) ∙ sym (append_assoc (f n) (rows_for f ns) (rows_for f ms))

pub rows_same : (f g : ℕ → List ℕ) (ns : List ℕ) → ((n i : ℕ) → At n i ns → f n ≡ g n) → rows_for f ns ≡ rows_for g ns
rows_same f g [] e = refl
rows_same f g (n ∷ ns) e = λ i. e n 0 (here n ns) i ++ rows_same f g ns (λ m j a. e m (suc j) (later m n j ns a)) i

-- each is four numbers long
abbrev pub Four : (ℕ → List ℕ) → List ℕ → Type 0
Four f ns = (n i : ℕ) → At n i ns → length (f n) ≡ 4

four_later : (f : ℕ → List ℕ) (n : ℕ) (ns : List ℕ) → Four f (n ∷ ns) → Four f ns
four_later f n ns w m i a = w m (suc i) (later m n i ns a)

pub rows_length : (f : ℕ → List ℕ) (ns : List ℕ) → Four f ns → length (rows_for f ns) ≡ 4 * length ns
rows_length f [] w = refl
rows_length f (n ∷ ns) w =
    omega (arith, length-append (f n) (rows_for f ns), w n 0 (here n ns), rows_length f ns (four_later f n ns w))

-- the numbers of a row
pub rows_at : {n i : ℕ} {ns : List ℕ} (f : ℕ → List ℕ) → Four f ns → At n i ns → (j : ℕ) → j < 4
    → get_or (rows_for f ns) (4 * i + j) 0 ≡ get_or (f n) j 0
rows_at f w (here n ns) j h =
    let k : 4 * 0 + j ≡ j = omega arith in
    ap (λ (l : ℕ). get_or (f n ++ rows_for f ns) l 0) k ∙ get_or-append (f n) (rows_for f ns) 0 j (omega (arith, w n 0 (here n ns)))
rows_at f w (later n m i ns a) j h =
    let k : 4 * suc i + j ≡ length (f m) + (4 * i + j) = omega (arith, w m 0 (here m ns)) in
    ap (λ (l : ℕ). get_or (f m ++ rows_for f ns) l 0) k
    ∙ get_or-append-add (f m) (rows_for f ns) (4 * i + j) 0
    ∙ rows_at f (four_later f m ns w) a j h

-- another row for one number
pub rows_over : {n i : ℕ} {ns : List ℕ} (f g : ℕ → List ℕ) → Four f ns → Once ns → At n i ns → length (g n) ≡ 4
    → ((m : ℕ) → (n ≡ m → ⊥) → f m ≡ g m) → over (rows_for f ns) (4 * i) (g n) ≡ rows_for g ns
rows_over f g w o (here n ns) l e =
    over_within (f n) (rows_for f ns) 0 (g n) (omega (arith, w n 0 (here n ns)))
    ∙ (λ i. over_all (f n) (g n) (l ∙ sym (w n 0 (here n ns))) i
    ++ rows_same f g ns (λ m j a. e m (λ q. o.0 j (subst (λ (k : ℕ). At k j ns) (sym q) a))) i)
rows_over f g w o (later n m i ns a) l e =
    let k : 4 * suc i ≡ length (f m) + 4 * i = omega (arith, w m 0 (here m ns)) in
    let d : n ≡ m → ⊥ = λ q. o.0 i (subst (λ (k : ℕ). At k i ns) q a) in
    ap (λ (k : ℕ). over (f m ++ rows_for f ns) k (g n)) k
    ∙ over_behind (f m) (rows_for f ns) (4 * i) (g n)
    ∙ (λ j. e m d j ++ rows_over f g (four_later f m ns w) o.1 a l e j)
