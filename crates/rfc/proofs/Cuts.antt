-- However a stream is cut, calls over its chunks give the same (`specs/Stream.antt`). They are compared with a reading byte by byte: a call
-- gives what its bytes give one by one, so the calls over a chunk do, and so does chunk after chunk.
-- Assumes nothing.
use mathlib.Core.Path.{◌≡◌, refl, sym, ap, ◌∙◌, subst}
use Prim.Native.Nat.{ℕ, suc, zero, ◌+◌, ◌-◌, ◌≤◌, ◌<◌}
use native.Mathlib.Omega.{arith}
use native.Mathlib.Nat.{not-suc-le-zero, le_refl}
use native.Mathlib.Decide.{dec_le}
use mathlib.Core.List.{List, [], ◌∷◌, ◌++◌, flatten}
use mathlib.Core.Bool.{Bool, true, false, cond}
use mathlib.Core.Option.{Option, none, some}
use lib.ListN.{length, take, drop, length-drop}
use Rattle.facts.specs.Over.{over}
use Rattle.facts.specs.BigEndian.{number}
use Rattle.facts.proofs.Over.{over_nil, over_over, length_over}
use Rattle.rfc.specs.Numbers.{Answer, refused}
use Rattle.rfc.specs.Stream.{Stream, between, sizing, filling, shut, frame, Taken, taken, hand_out, gather, end_size, start_size, receive, Fits, is_shut, Yield, yields, handing, drain_in, drain, drain_all}
use Rattle.rfc.proofs.Stream.{gather_large, gather_whole, gather_part, gather_fits, receive_leaves, receive_some}

-- one byte; of a refused stream it is dropped
one : Stream → List ℕ → ℕ → Taken
one between buffer b = taken none 1 (sizing b) buffer
one (sizing high) buffer b = gather 1 (number (high ∷ b ∷ [])) 0 buffer []
one (filling size filled) buffer b = gather 0 size filled buffer (b ∷ [])
one shut buffer b = taken none 1 shut buffer

-- byte by byte
each : Stream → List ℕ → List ℕ → Yield
each s buffer [] = yields [] s buffer
each s buffer (b ∷ rest) = handing (one s buffer b).handed (each (one s buffer b).stands (one s buffer b).buffer rest)

-- what was taken, and then the rest byte by byte
abbrev resumed : Taken → List ℕ → Yield
resumed t rest = handing t.handed (each t.stands t.buffer rest)

-- a call over a chunk, and then the rest of it byte by byte
abbrev reads : Taken → List ℕ → Yield
reads t chunk = resumed t (drop t.used chunk)

-- a byte of a frame that is not its last, and then a call: as one call
gather_next : (b : ℕ) (rest : List ℕ) (size filled : ℕ) (buffer : List ℕ) → filled + 1 < size → size ≤ length buffer
    → reads (gather 0 size (filled + 1) (over buffer filled (b ∷ [])) rest) rest ≡ reads (gather 0 size filled buffer (b ∷ rest)) (b ∷ rest)
unfolding handing hand_out each one
gather_next b rest size filled buffer h g = go (dec_le (size - filled) (length (b ∷ rest)))
  where
    buffer' : List ℕ
    buffer' = over buffer filled (b ∷ [])

    n : length buffer' ≡ length buffer
    n = length_over buffer filled (b ∷ []) (omega arith)

    k : size - filled ≡ suc (size - (filled + 1))
    k = omega arith

    go : Dec (size - filled ≤ length (b ∷ rest))
        → reads (gather 0 size (filled + 1) buffer' rest) rest ≡ reads (gather 0 size filled buffer (b ∷ rest)) (b ∷ rest)
    go (yes all) =
        let m : ℕ = size - (filled + 1) in
        let v : 0 + m ≡ m = omega arith in
        let l = gather_whole 0 size (filled + 1) buffer' rest (omega (arith, n)) (omega arith)
        ∙ (λ i. hand_out (v i) size (over buffer' (filled + 1) (take m rest))) in
        let u : 0 + (size - filled) ≡ suc m = omega arith in
        let r = gather_whole 0 size filled buffer (b ∷ rest) g all ∙ (λ i. hand_out (u i) size (over buffer filled (take (k i) (b ∷ rest)))) in
        let o = over_over buffer filled (b ∷ []) (take m rest) (omega arith) in
        ap (λ (t : Taken). reads t rest) l
        ∙ (λ i. handing (some (frame (take size (o i)))) (each between (o i) (drop m rest)))
        ∙ sym (ap (λ (t : Taken). reads t (b ∷ rest)) r)
    go (no part) =
        let v : 0 + length rest ≡ length rest = omega arith in
        let u : 0 + suc (length rest) ≡ suc (length rest) = omega arith in
        let l = gather_part 0 size (filled + 1) buffer' rest (omega (arith, n)) (omega arith)
        ∙ (λ i. taken none (v i) (filling size (filled + 1 + length rest)) (over buffer' (filled + 1) rest)) in
        let r = gather_part 0 size filled buffer (b ∷ rest) g (omega arith)
        ∙ (λ i. taken none (u i) (filling size (filled + suc (length rest))) (over buffer filled (b ∷ rest))) in
        let e : filled + 1 + length rest ≡ filled + suc (length rest) = omega arith in
        let o = over_over buffer filled (b ∷ []) rest (omega arith) in
        ap (λ (t : Taken). reads t rest) l
        ∙ (λ i. each (filling size (e i)) (o i) (drop (length rest) rest))
        ∙ sym (ap (λ (t : Taken). reads t (b ∷ rest)) r)

-- a frame's further bytes, one by one, are those of one call
gather_each : (rest : List ℕ) (size filled : ℕ) (buffer : List ℕ) → filled < size → size ≤ length buffer
    → each (filling size filled) buffer rest ≡ reads (gather 0 size filled buffer rest) rest
unfolding handing hand_out each one
gather_each [] size filled buffer h g =
    let e : filled + 0 ≡ filled = omega arith in
    sym (ap (λ (t : Taken). reads t []) (gather_part 0 size filled buffer [] g (omega arith))
    ∙ (λ i. yields [] (filling size (e i)) (over_nil buffer filled i)))
gather_each (b ∷ rest) size filled buffer h g =
    go (dec_le (size - filled) 1)
    (λ m. gather_each rest size (filled + 1) (over buffer filled (b ∷ [])) m (omega (arith, length_over buffer filled (b ∷ []) (omega arith))))
  where
    ends : size - filled ≡ 1 → (l : List ℕ) → 1 ≤ length l → gather 0 size filled buffer l ≡ hand_out (0 + 1) size (over buffer filled (take 1 l))
    ends k l m = gather_whole 0 size filled buffer l g (omega arith) ∙ (λ i. hand_out (0 + k i) size (over buffer filled (take (k i) l)))

    go : Dec (size - filled ≤ 1)
        → (filled + 1 < size → each (filling size (filled + 1)) (over buffer filled (b ∷ [])) rest
        ≡ reads (gather 0 size (filled + 1) (over buffer filled (b ∷ [])) rest) rest)
        → each (filling size filled) buffer (b ∷ rest) ≡ reads (gather 0 size filled buffer (b ∷ rest)) (b ∷ rest)
    go (yes last) ih =
        let k : size - filled ≡ 1 = omega arith in
        ap (λ (t : Taken). resumed t rest) (ends k (b ∷ []) (omega arith))
        ∙ sym (ap (λ (t : Taken). reads t (b ∷ rest)) (ends k (b ∷ rest) (omega arith)))
    go (no more) ih =
        ap (λ (t : Taken). resumed t rest) (gather_part 0 size filled buffer (b ∷ []) g (omega arith))
        ∙ ih (omega arith)
        ∙ gather_next b rest size filled buffer (omega arith) g

-- a refused stream stays so
each_shut : (buffer chunk : List ℕ) → each shut buffer chunk ≡ yields [] shut buffer
unfolding handing each one
each_shut buffer [] = refl
each_shut buffer (b ∷ rest) = each_shut buffer rest

-- where a call begins in a chunk changes only how many bytes it used
module _ (u : ℕ) (chunk rest : List ℕ) (at : (n : ℕ) → drop (u + n) chunk ≡ drop n rest) where
  gather_shift : (size filled : ℕ) (buffer : List ℕ) → size ≤ length buffer
      → reads (gather 0 size filled buffer rest) rest ≡ reads (gather u size filled buffer rest) chunk
  unfolding hand_out
  gather_shift size filled buffer g = go (dec_le (size - filled) (length rest))
    where
      v : (n : ℕ) → drop (0 + n) rest ≡ drop (u + n) chunk
      v n = let e : 0 + n ≡ n = omega arith in ap (λ (k : ℕ). drop k rest) e ∙ sym (at n)

      go : Dec (size - filled ≤ length rest)
          → reads (gather 0 size filled buffer rest) rest ≡ reads (gather u size filled buffer rest) chunk
      go (yes all) =
          let buffer' : List ℕ = over buffer filled (take (size - filled) rest) in
          ap (λ (t : Taken). reads t rest) (gather_whole 0 size filled buffer rest g all)
          ∙ ap (λ (l : List ℕ). handing (some (frame (take size buffer'))) (each between buffer' l)) (v (size - filled))
          ∙ sym (ap (λ (t : Taken). reads t chunk) (gather_whole u size filled buffer rest g all))
      go (no part) =
          ap (λ (t : Taken). reads t rest) (gather_part 0 size filled buffer rest g (omega arith))
          ∙ ap (λ (l : List ℕ). handing none (each (filling size (filled + length rest)) (over buffer filled rest) l)) (v (length rest))
          ∙ sym (ap (λ (t : Taken). reads t chunk) (gather_part u size filled buffer rest g (omega arith)))

  -- the second byte of a size, and what follows it
  sized : (size : ℕ) (buffer : List ℕ)
      → resumed (gather 1 size 0 buffer []) rest ≡ reads (gather u size 0 buffer rest) chunk
  unfolding hand_out handing
  sized size buffer = go (dec_le size (length buffer)) (dec_le size 0)
    where
      go : Dec (size ≤ length buffer) → Dec (size ≤ 0)
          → resumed (gather 1 size 0 buffer []) rest ≡ reads (gather u size 0 buffer rest) chunk
      go (no large) d =
          ap (λ (t : Taken). resumed t rest) (gather_large 1 size 0 buffer [] (omega arith))
          ∙ ap (handing (some (refused 17))) (each_shut buffer rest ∙ sym (each_shut buffer (drop u chunk)))
          ∙ sym (ap (λ (t : Taken). reads t chunk) (gather_large u size 0 buffer rest (omega arith)))
      go (yes g) (yes none_left) =
          let s0 : size - 0 ≡ 0 = omega arith in
          ap (λ (t : Taken). resumed t rest)
          (gather_whole 1 size 0 buffer [] g (omega arith) ∙ (λ i. hand_out (1 + s0 i) size (over buffer 0 (take (s0 i) []))))
          ∙ ap (λ (l : List ℕ). handing (some (frame (take size (over buffer 0 [])))) (each between (over buffer 0 []) l)) (sym (at 0))
          ∙ sym (ap (λ (t : Taken). reads t chunk)
          (gather_whole u size 0 buffer rest g (omega arith) ∙ (λ i. hand_out (u + s0 i) size (over buffer 0 (take (s0 i) rest)))))
      go (yes g) (no more) =
          ap (λ (t : Taken). resumed t rest) (gather_part 1 size 0 buffer [] g (omega arith))
          ∙ ap (λ (l : List ℕ). handing none (each (filling size 0) l rest)) (over_nil buffer 0)
          ∙ ap (handing none) (gather_each rest size 0 buffer (omega arith) g)
          ∙ gather_shift size 0 buffer g

-- a call is its bytes, one by one, up to what it hands out
receive_each : (s : Stream) (buffer chunk : List ℕ) → Fits buffer s → is_shut s ≡ false → each s buffer chunk ≡ reads (receive s buffer chunk) chunk
unfolding handing each one receive start_size end_size is_shut
receive_each between buffer [] l r = refl
receive_each between buffer (high ∷ []) l r = refl
receive_each between buffer (high ∷ low ∷ rest) l r =
    sized (1 + 1) (high ∷ low ∷ rest) rest
    (λ n. let e : 1 + 1 + n ≡ suc (suc n) = omega arith in ap (λ (k : ℕ). drop k (high ∷ low ∷ rest)) e)
    (number (high ∷ low ∷ [])) buffer
receive_each (sizing high) buffer [] l r = refl
receive_each (sizing high) buffer (low ∷ rest) l r =
    sized (0 + 1) (low ∷ rest) rest (λ n. let e : 0 + 1 + n ≡ suc n = omega arith in ap (λ (k : ℕ). drop k (low ∷ rest)) e)
    (number (high ∷ low ∷ [])) buffer
receive_each (filling size filled) buffer chunk l r = gather_each chunk size filled buffer l.0 l.1
receive_each shut buffer chunk l r = let n : ◌≡◌ {A = ℕ} 0 1 = cc in absurd (omega arith)

is-shut : (s : Stream) → is_shut s ≡ true → s ≡ shut
unfolding is_shut
is-shut between e = let n : ◌≡◌ {A = ℕ} 0 1 = cc in absurd (omega arith)
is-shut (sizing high) e = let n : ◌≡◌ {A = ℕ} 0 1 = cc in absurd (omega arith)
is-shut (filling size filled) e = let n : ◌≡◌ {A = ℕ} 0 1 = cc in absurd (omega arith)
is-shut shut e = refl

-- call after call is byte after byte
drain_each : (k : ℕ) (s : Stream) (buffer chunk : List ℕ) → Fits buffer s → length chunk ≤ k → drain_in k s buffer chunk ≡ each s buffer chunk
unfolding drain_in each
drain_each zero s buffer [] f h = refl
drain_each zero s buffer (b ∷ rest) f h = absurd (not-suc-le-zero h)
drain_each (suc k) s buffer [] f h = refl
drain_each (suc k) s buffer (b ∷ rest) f h =
    go (is_shut s) refl
    (λ (o : is_shut s ≡ false).
    let t : Taken = receive s buffer (b ∷ rest) in
    let n : 0 < t.used = receive_some s buffer (b ∷ rest) f o (omega arith) in
    ap (handing t.handed)
    (drain_each k t.stands t.buffer (drop t.used (b ∷ rest)) (receive_leaves s buffer (b ∷ rest)).fits
    (omega (arith, length-drop t.used (b ∷ rest)))))
  where
    after : Taken → Yield
    after t = handing t.handed (drain_in k t.stands t.buffer (drop t.used (b ∷ rest)))

    go : (x : Bool) → is_shut s ≡ x
        → (is_shut s ≡ false → after (receive s buffer (b ∷ rest)) ≡ reads (receive s buffer (b ∷ rest)) (b ∷ rest))
        → cond (is_shut s) (yields [] s buffer) (after (receive s buffer (b ∷ rest))) ≡ each s buffer (b ∷ rest)
    go true e ih = rw e ((λ i. yields [] (is-shut s e i) buffer) ∙ sym (each_shut buffer (b ∷ rest)) ∙ (λ i. each (sym (is-shut s e) i) buffer (b ∷ rest)))
    go false e ih = rw e (ih e ∙ sym (receive_each s buffer (b ∷ rest) f e))

-- chunk after chunk
abbrev behind : Yield → Yield → Yield
behind r more = yields (r.handed ++ more.handed) more.stands more.buffer

handing_behind : (f : Option (Answer (List ℕ))) (r more : Yield) → behind (handing f r) more ≡ handing f (behind r more)
unfolding handing
handing_behind none r more = refl
handing_behind (some a) r more = refl

handing_stands : (f : Option (Answer (List ℕ))) (r : Yield) → ((handing f r).stands ≡ r.stands) × ((handing f r).buffer ≡ r.buffer)
unfolding handing
handing_stands none r = (refl, refl)
handing_stands (some a) r = (refl, refl)

each_both : (s : Stream) (buffer a c : List ℕ) → each s buffer (a ++ c) ≡ behind (each s buffer a) (each (each s buffer a).stands (each s buffer a).buffer c)
unfolding each
each_both s buffer [] c = refl
each_both s buffer (b ∷ a) c =
    let t : Taken = one s buffer b in
    let r : Yield = each t.stands t.buffer a in
    let p = handing_stands t.handed r in
    ap (handing t.handed) (each_both t.stands t.buffer a c)
    ∙ sym (handing_behind t.handed r (each r.stands r.buffer c))
    ∙ (λ i. behind (handing t.handed r) (each (sym p.0 i) (sym p.1 i) c))

-- a byte leaves a stream as a call does
one_fits : (s : Stream) (buffer : List ℕ) (b : ℕ) → Fits (one s buffer b).buffer (one s buffer b).stands
unfolding one
one_fits between buffer b = tt
one_fits (sizing high) buffer b = gather_fits 1 (number (high ∷ b ∷ [])) 0 buffer []
one_fits (filling size filled) buffer b = gather_fits 0 size filled buffer (b ∷ [])
one_fits shut buffer b = tt

each_fits : (s : Stream) (buffer chunk : List ℕ) → Fits buffer s → Fits (each s buffer chunk).buffer (each s buffer chunk).stands
unfolding each
each_fits s buffer [] l = l
each_fits s buffer (b ∷ rest) l =
    let t : Taken = one s buffer b in
    let p = handing_stands t.handed (each t.stands t.buffer rest) in
    subst (λ (x : List ℕ). Fits x (resumed t rest).stands) (sym p.1)
    (subst (λ (x : Stream). Fits (each t.stands t.buffer rest).buffer x) (sym p.0)
    (each_fits t.stands t.buffer rest (one_fits s buffer b)))

all_each : (s : Stream) (buffer : List ℕ) (chunks : List (List ℕ)) → Fits buffer s → drain_all s buffer chunks ≡ each s buffer (flatten chunks)
unfolding drain_all drain flatten each
all_each s buffer [] l = refl
all_each s buffer (chunk ∷ chunks) l =
    let e = drain_each (length chunk) s buffer chunk l (le_refl _) in
    let r : Yield = each s buffer chunk in
    ap (λ (x : Yield). behind x (drain_all x.stands x.buffer chunks)) e
    ∙ ap (behind r) (all_each r.stands r.buffer chunks (each_fits s buffer chunk l))
    ∙ sym (each_both s buffer chunk (flatten chunks))

-- two ways to cut the same bytes
pub cut_anywhere : (s : Stream) (buffer : List ℕ) (these those : List (List ℕ)) → Fits buffer s → flatten these ≡ flatten those
    → drain_all s buffer these ≡ drain_all s buffer those
cut_anywhere s buffer these those l e = all_each s buffer these l ∙ ap (each s buffer) e ∙ sym (all_each s buffer those l)

-- and one is not to cut them
pub uncut : (s : Stream) (buffer : List ℕ) (chunks : List (List ℕ)) → Fits buffer s → drain_all s buffer chunks ≡ drain s buffer (flatten chunks)
unfolding drain
uncut s buffer chunks f = all_each s buffer chunks f ∙ sym (drain_each (length (flatten chunks)) s buffer (flatten chunks) f (le_refl _))
