-- RFC 3396's reading and the walk see the same parts of a field. An option that the walk finds is so many parts of its code in front of what is
-- read behind it; so a listing, call by call, is the field, read.
-- Assumes nothing.
use mathlib.Core.Path.{◌≡◌, refl, sym, ap, ◌∙◌, subst}
use Prim.Native.Nat.{ℕ, suc, zero, ◌+◌, ◌*◌, ◌≤◌, ◌<◌}
use native.Mathlib.Omega.{arith}
use native.Mathlib.Nat.{le_refl}
use mathlib.Core.List.{List, [], ◌∷◌, ◌++◌, append_assoc, flatten}
use mathlib.Core.Bool.{Bool, true, false, cond}
use lib.ListN.{length, take, drop, length-drop, length-append}
use lib.Seq.{drop-drop, length-take-le}
use lib.Dec.{eqb, leb}
use borrow.Author.Tests.{eqb-true, eqb-false, leb-true, leb-false}
use Rattle.rfc.specs.Numbers.{given, pad_code, end_code, most_bytes}
use Rattle.rfc.specs.Walk.{Stop, end, cut_value, Found, stop, option, Run, cut, run, extend, further_in, further, joined, behind, walk, room_for}
use Rattle.rfc.specs.Lists.{Listing, onward, list_in, listing}
use Rattle.rfc.specs.Portions.{portion, Next, Portions, cut_field, whole, ahead, goes_on, portions, of_code, joined_value}
use Rattle.rfc.specs.Modes.{values_in, EndsCut, at_length, at_value, at_continuation, EndsWhole, at_out, at_end}
use Rattle.rfc.proofs.Walk.{stop_answered, answered, step_walks}
use Rattle.rfc.proofs.Portions.{next_none, next_pad, next_end, next_no_length, next_no_value, next_whole, goes-on, ended, is-cut, one_part}

-- a field is another one with parts of a code in front, whose values joined are these
data Front (code : ℕ) : List ℕ → Portions → Portions → Type 0 where
  none : (x : Portions) → Front code [] x x
  more : {vs : List ℕ} {x y : Portions} (v : List ℕ) (at : ℕ) → Front code vs x y → Front code (v ++ vs) (ahead (portion code v at) x) y

-- so many bytes behind which the rest is read
abbrev Skips : ℕ → ℕ → List ℕ → List ℕ → ℕ → Type 0
Skips code at v rest skip = (skip ≤ length rest) × Front code v (portions at rest) (portions (at + skip) (drop skip rest))

skips_none : (code at : ℕ) (rest : List ℕ) → Skips code at [] rest 0
skips_none code at rest =
    let z : at ≡ at + 0 = omega arith in
    (omega arith, subst (λ (n : ℕ). Front code [] (portions at rest) (portions n rest)) z (none (portions at rest)))

module _ (code : ℕ) (z : code ≡ pad_code → ⊥) (e : code ≡ end_code → ⊥) (at n : ℕ) (rest : List ℕ) (h : n ≤ length rest) where
  -- a whole part at the front
  here : portions at (code ∷ n ∷ rest) ≡ ahead (portion code (take n rest) (at + 2 + n)) (portions (at + 2 + n) (drop n rest))
  here = one_part at _ _ _ (next_whole at code z e n rest h)

  skips_more : (vs : List ℕ) (s : ℕ) → Skips code (at + 2 + n) vs (drop n rest) s
      → Skips code at (take n rest ++ vs) (code ∷ n ∷ rest) (suc (suc (n + s)))
  skips_more vs s r =
      let a : at + suc (suc (n + s)) ≡ at + 2 + n + s = omega arith in
      let d : drop (n + s) rest ≡ drop s (drop n rest) = sym (drop-drop s n rest) in
      (omega (arith, r.0, length-drop n rest), rw (here, a, d) (more (take n rest) (at + 2 + n) r.1))

-- the further parts of a code: one of them is cut, and so is the field; or they stand in front of what is read behind them
abbrev Reads : ℕ → ℕ → List ℕ → Run → Type 0
Reads code at rest cut = portions at rest ≡ cut_field
Reads code at rest (run n vs) = Skips code at vs rest (2 * n + length vs)

module _ (code : ℕ) (z : code ≡ pad_code → ⊥) (e : code ≡ end_code → ⊥) where
  -- with one part more
  reads_more : (at n : ℕ) (rest : List ℕ) (r : Run) → n ≤ length rest → Reads code (at + 2 + n) (drop n rest) r
      → Reads code at (code ∷ n ∷ rest) (extend (take n rest) r)
  unfolding extend ahead
  reads_more at n rest cut h x = here code z e at n rest h ∙ ap (ahead (portion code (take n rest) (at + 2 + n))) x
  reads_more at n rest (run m vs) h x =
      let s : ℕ = 2 * m + length vs in
      let to : suc (suc (n + s)) ≡ 2 * suc m + length (take n rest ++ vs) = omega (arith, length-append (take n rest) vs, length-take-le n rest h) in
      subst (Skips code at (take n rest ++ vs) (code ∷ n ∷ rest)) to (skips_more code z e at n rest h vs s x)

  reads_in : (k at : ℕ) (rest : List ℕ) → length rest ≤ k → Reads code at rest (further_in k code rest)
  unfolding further_in
  reads_in zero at rest h = skips_none code at rest
  reads_in (suc k) at [] h = skips_none code at []
  reads_in (suc k) at (b ∷ []) h = go (eqb b code) refl
    where
      go : (t : Bool) → eqb b code ≡ t → Reads code at (b ∷ []) (cond t cut (run 0 []))
      go true q = rw (eqb-true b code q) (is-cut at _ (next_no_length at code z e))
      go false q = skips_none code at (b ∷ [])
  reads_in (suc k) at (b ∷ n ∷ rest) h =
      go (eqb b code) refl (leb n (length rest)) refl (reads_in k (at + 2 + n) (drop n rest) (omega (arith, length-drop n rest)))
    where
      go : (t : Bool) → eqb b code ≡ t → (u : Bool) → leb n (length rest) ≡ u
          → Reads code (at + 2 + n) (drop n rest) (further_in k code (drop n rest))
          → Reads code at (b ∷ n ∷ rest) (cond t (cond u (extend (take n rest) (further_in k code (drop n rest))) cut) (run 0 []))
      go true q true w r = rw (eqb-true b code q) (reads_more at n rest (further_in k code (drop n rest)) (leb-true n (length rest) w) r)
      go true q false w r = rw (eqb-true b code q) (is-cut at _ (next_no_value at code z e n rest (leb-false n (length rest) w)))
      go false q u w r = skips_none code at (b ∷ n ∷ rest)

  reads : (at : ℕ) (rest : List ℕ) → Reads code at rest (further code rest)
  unfolding further
  reads at rest = reads_in (length rest) at rest (le_refl _)

-- what the walk finds from a place of an area, beside the bytes from there on as a field: it has no part, it is cut, or an option's parts
-- stand in front of what is read behind them
data Sees (at p : ℕ) (rest : List ℕ) : Found → Type 0 where
  nothing : {s : Stop} {q : ℕ} → portions at rest ≡ whole [] → EndsWhole (given (stop s q)) → Sees at p rest (stop s q)
  a_cut : {s : Stop} {q : ℕ} → portions at rest ≡ cut_field → EndsCut (given (stop s q)) → Sees at p rest (stop s q)
  parts : {code : ℕ} {v : List ℕ} {n q : ℕ} (skip : ℕ) → p + skip ≡ q → 0 < skip → length v ≤ skip → Skips code at v rest skip
      → Sees at p rest (option code v n q)

-- a Pad in front changes nothing
pad_skipped : (at : ℕ) (rest : List ℕ) → portions at (pad_code ∷ rest) ≡ portions (at + 1) rest
pad_skipped at rest =
    goes-on at (pad_code ∷ rest) ∙ ap (λ (x : Next). goes_on x portions) (next_pad at pad_code rest refl) ∙ sym (goes-on (at + 1) rest)

behind_pad : (at p : ℕ) (rest : List ℕ) (f : Found) → Sees (at + 1) (p + 1) rest f → Sees at p (pad_code ∷ rest) f
behind_pad at p rest f (nothing x w) = nothing (pad_skipped at rest ∙ x) w
behind_pad at p rest f (a_cut x w) = a_cut (pad_skipped at rest ∙ x) w
behind_pad at p rest f (parts {code} {v} {n} {q} skip to some long x) =
    let a : at + suc skip ≡ at + 1 + skip = omega arith in
    parts {code = code} {v = v} {n = n} {q = q} (suc skip) (omega arith) (omega arith) (omega arith)
    (omega (arith, x.0), rw (pad_skipped at rest, a) x.1)

sees : (at p : ℕ) (rest : List ℕ) → Sees at p rest (walk p rest)
unfolding walk behind joined extend
sees at p [] = nothing (ended at [] (next_none at)) (at_out p)
sees at p (b ∷ rest) = go (eqb b pad_code) refl (eqb b end_code) refl (sees (at + 1) (p + 1) rest)
  where
    code : (l : List ℕ) → (b ≡ pad_code → ⊥) → (b ≡ end_code → ⊥) → Sees at p (b ∷ l) (behind b (p + 1) l)
    code [] z e = a_cut (is-cut at _ (next_no_length at b z e)) (at_length (p + 1))
    code (n ∷ l) z e = by (leb n (length l)) refl (further b (drop n l)) (reads b z e (at + 2 + n) (drop n l))
      where
        by : (t : Bool) → leb n (length l) ≡ t → (r : Run) → Reads b (at + 2 + n) (drop n l) r
            → Sees at p (b ∷ n ∷ l) (cond t (joined b (take n l) (p + 1 + 1 + n) r) (stop cut_value (p + 1 + 1)))
        by true w cut x = a_cut (reads_more b z e at n l cut (leb-true n (length l) w) x) (at_continuation (p + 1 + 1 + n))
        by true w (run m vs) x =
            let h : n ≤ length l = leb-true n (length l) w in
            let s : ℕ = 2 * m + length vs in
            let far : p + suc (suc (n + s)) ≡ p + 1 + 1 + n + s = omega arith in
            let long : length (take n l ++ vs) ≤ suc (suc (n + s)) = omega (arith, length-append (take n l) vs, length-take-le n l h) in
            parts (suc (suc (n + s))) far (omega arith) long (skips_more b z e at n l h vs s x)
        by false w r x = a_cut (is-cut at _ (next_no_value at b z e n l (leb-false n (length l) w))) (at_value (p + 1 + 1))

    go : (t : Bool) → eqb b pad_code ≡ t → (u : Bool) → eqb b end_code ≡ u → Sees (at + 1) (p + 1) rest (walk (p + 1) rest)
        → Sees at p (b ∷ rest) (cond t (walk (p + 1) rest) (cond u (stop end (p + 1)) (behind b (p + 1) rest)))
    go true e u w x = rw (eqb-true b pad_code e) (behind_pad at p rest (walk (p + 1) rest) x)
    go false e true w x = nothing (ended at _ (next_end at b rest (eqb-true b end_code w))) (at_end (p + 1))
    go false e false w x = code rest (eqb-false b pad_code e) (eqb-false b end_code w)

-- a field, read, beside a listing
abbrev pub Agrees : Portions → Listing → Type 0
Agrees cut_field l = EndsCut l.ending
Agrees (whole ps) l = EndsWhole l.ending × ((code : ℕ) → joined_value (of_code code ps) ≡ values_in code l.options)

-- an option in front of a listing
abbrev before : ℕ → List ℕ → Listing → Listing
before code v l = record { options = record { code = code; value = v } ∷ l.options; ending = l.ending }

agrees_none : (code : ℕ) (x : Portions) (l : Listing) → Agrees x l → Agrees x (before code [] l)
unfolding values_in
agrees_none code cut_field l a = a
agrees_none code (whole ps) l a = (a.0, λ c. go c (eqb code c))
  where
    go : (c : ℕ) (t : Bool) → joined_value (of_code c ps) ≡ cond t ([] ++ values_in c l.options) (values_in c l.options)
    go c true = a.1 c
    go c false = a.1 c

agrees_more : (code : ℕ) (v vs : List ℕ) (at : ℕ) (x : Portions) (l : Listing) → Agrees x (before code vs l)
    → Agrees (ahead (portion code v at) x) (before code (v ++ vs) l)
unfolding ahead values_in of_code joined_value flatten
agrees_more code v vs at cut_field l a = a
agrees_more code v vs at (whole ps) l a = (a.0, λ c. go c (eqb code c) (a.1 c))
  where
    go : (c : ℕ) (t : Bool) → joined_value (of_code c ps) ≡ cond t (vs ++ values_in c l.options) (values_in c l.options)
        → joined_value (cond t (portion code v at ∷ of_code c ps) (of_code c ps))
        ≡ cond t ((v ++ vs) ++ values_in c l.options) (values_in c l.options)
    go c true e = ap (λ (w : List ℕ). v ++ w) e ∙ sym (append_assoc v vs (values_in c l.options))
    go c false e = e

in-front : {code : ℕ} {v : List ℕ} {x y : Portions} (l : Listing) → Front code v x y → Agrees y l → Agrees x (before code v l)
in-front l (none x) a = agrees_none _ x l a
in-front l (more v at f) a = agrees_more _ v _ at _ l (in-front l f a)

module _ (area : List ℕ) (join : ℕ) (short : length area ≤ most_bytes) (room : length area ≤ join) where
  listed_in : (k at place : ℕ) → place ≤ length area → length area ≤ place + k → Agrees (portions at (drop place area)) (list_in k area join place)
  unfolding list_in onward values_in of_code joined_value flatten
  listed_in zero at place h g =
      rw (step_walks area place join short h) (go (walk place (drop place area)) (sees at place (drop place area)))
    where
      go : (f : Found) → Sees at place (drop place area) f
          → Agrees (portions at (drop place area)) (record { options = []; ending = room_for join f })
      go f (nothing x w) = rw (x, stop_answered join _ _) (w, λ c. refl)
      go f (a_cut x w) = rw (x, stop_answered join _ _) w
      go f (parts skip q some long x) = absurd (omega (arith, x.0, length-drop place area))
  listed_in (suc k) at place h g =
      rw (step_walks area place join short h)
      (go (walk place (drop place area)) (sees at place (drop place area)) (λ to m i j. listed_in k m to j (omega arith)))
    where
      go : (f : Found) → Sees at place (drop place area) f
          → ((to m : ℕ) → place < to → to ≤ length area → Agrees (portions m (drop to area)) (list_in k area join to))
          → Agrees (portions at (drop place area)) (onward (room_for join f) (list_in k area join))
      go f (nothing x w) r = rw (x, stop_answered join _ _) (w, λ c. refl)
      go f (a_cut x w) r = rw (x, stop_answered join _ _) w
      go f (parts {code} {v} {n} {q} skip to some long x) r =
          let inner : q ≤ length area = omega (arith, x.0, length-drop place area) in
          let d : drop skip (drop place area) ≡ drop q area = drop-drop skip place area ∙ ap (λ (j : ℕ). drop j area) to in
          rw (answered join code v n q (omega (arith, x.0, length-drop place area)))
          (in-front (list_in k area join q) (rw d at x.1) (r q (at + skip) (omega arith) inner))

  -- both modes see the same parts
  pub both_modes : (at : ℕ) → Agrees (portions at area) (listing area join)
  unfolding listing
  both_modes at = listed_in (length area) at 0 (omega arith) (omega arith)
