-- The laws of `specs/Stream.antt` that are about one call: how a frame is gathered, what is handed out, and what a call leaves.
-- Assumes nothing.
use mathlib.Core.Path.{◌≡◌, refl, sym, ap, ◌∙◌, subst}
use Prim.Native.Nat.{ℕ, ◌+◌, ◌-◌, ◌≤◌, ◌<◌}
use native.Mathlib.Omega.{arith}
use native.Mathlib.Decide.{dec_le}
use mathlib.Core.List.{List, [], ◌∷◌}
use mathlib.Core.Bool.{false}
use mathlib.Core.Option.{none, some}
use lib.ListN.{length, take}
use lib.Seq.{length-take-le}
use borrow.Author.Tests.{le-leb, lt-leb, lt-ltb, le-ltb}
use Rattle.facts.specs.Over.{over}
use Rattle.facts.specs.BigEndian.{number}
use Rattle.facts.proofs.Over.{over_nil, length_over}
use Rattle.rfc.specs.Numbers.{Answer, given, refused, least_message, too_short}
use Rattle.rfc.specs.Stream.{Stream, between, sizing, filling, shut, too_large, frame, Taken, taken, hand_out, gather, end_size, start_size, receive, Fits, is_shut}
use Rattle.rfc.proofs.Numbers.{refuses as refuses_by, here, clears, next, done, given_no}

-- what a whole frame is handed out as
pub frame_short : (bytes : List ℕ) → length bytes < least_message → frame bytes ≡ refused 1
unfolding frame too_short
frame_short bytes h = refuses_by (given bytes) (here (lt-ltb (length bytes) least_message h))

pub frame_long : (bytes : List ℕ) → least_message ≤ length bytes → frame bytes ≡ given bytes
unfolding frame too_short
frame_long bytes h = clears (given bytes) (next (le-ltb (length bytes) least_message h) done)

-- what holds of both holds of what it is handed out as
pub frame_cases : (P : Answer (List ℕ) → Type 0) (bytes : List ℕ) → (least_message ≤ length bytes → P (given bytes))
    → (length bytes < least_message → P (refused 1)) → P (frame bytes)
frame_cases P bytes l s = go (dec_le least_message (length bytes))
  where
    go : Dec (least_message ≤ length bytes) → P (frame bytes)
    go (yes h) = subst P (sym (frame_long bytes h)) (l h)
    go (no h) = subst P (sym (frame_short bytes (omega arith))) (s (omega arith))

-- a message that is handed out is the frame
frame_given : (bytes m : List ℕ) → frame bytes ≡ given m → bytes ≡ m
frame_given bytes m = frame_cases (λ a. a ≡ given m → bytes ≡ m) bytes (λ h e. cc) (λ h e. absurd (given_no m 1 (sym e)))

-- and it is never handed out as 17
frame_no_17 : (bytes : List ℕ) → frame bytes ≡ refused 17 → ⊥
frame_no_17 bytes =
    frame_cases (λ a. a ≡ refused 17 → ⊥) bytes (λ h e. given_no bytes 17 e) (λ h e. let n : ◌≡◌ {A = ℕ} 1 17 = cc in omega arith)

-- a frame being gathered: too large, whole, or in part
module _ (used size filled : ℕ) (buffer rest : List ℕ) where
  abbrev large : Taken
  large = taken (some (refused 17)) used shut buffer

  abbrev all : Taken
  all = hand_out (used + (size - filled)) size (over buffer filled (take (size - filled) rest))

  abbrev part : Taken
  part = taken none (used + length rest) (filling size (filled + length rest)) (over buffer filled rest)

  pub gather_large : length buffer < size → gather used size filled buffer rest ≡ large
  unfolding gather too_large
  gather_large h = rw (lt-ltb (length buffer) size h)

  pub gather_whole : size ≤ length buffer → size - filled ≤ length rest → gather used size filled buffer rest ≡ all
  unfolding gather too_large
  gather_whole h g = simp (le-ltb (length buffer) size h, le-leb (size - filled) (length rest) g)

  pub gather_part : size ≤ length buffer → length rest < size - filled → gather used size filled buffer rest ≡ part
  unfolding gather too_large
  gather_part h g = simp (le-ltb (length buffer) size h, lt-leb (size - filled) (length rest) g)

  -- what holds in each of the three cases holds
  pub gather_cases : (P : Taken → Type 0) → (length buffer < size → P large) → (size ≤ length buffer → size - filled ≤ length rest → P all)
      → (size ≤ length buffer → length rest < size - filled → P part) → P (gather used size filled buffer rest)
  gather_cases P l a p = go (dec_le size (length buffer)) (dec_le (size - filled) (length rest))
    where
      go : Dec (size ≤ length buffer) → Dec (size - filled ≤ length rest) → P (gather used size filled buffer rest)
      go (no h) d = subst P (sym (gather_large (omega arith))) (l (omega arith))
      go (yes h) (yes g) = subst P (sym (gather_whole h g)) (a h g)
      go (yes h) (no g) = subst P (sym (gather_part h (omega arith))) (p h (omega arith))

-- what a call leaves that was lent this buffer and a chunk of so many bytes: how the stream stands fits the buffer, which has its length, a
-- message stands at its front, and 17 shuts the stream and changes nothing in it; no more bytes are used than there are
pub record Leaves (buffer : List ℕ) (most : ℕ) (t : Taken) : Type 0 where
  pub fits : Fits t.buffer t.stands
  pub kept : length t.buffer ≡ length buffer
  pub front : (m : List ℕ) → t.handed ≡ some (given m) → take (length m) t.buffer ≡ m
  pub refuses : t.handed ≡ some (refused 17) → (t.stands ≡ shut) × (t.buffer ≡ buffer)
  pub all_there : t.used ≤ most

-- nothing was handed out, and nothing put in the buffer
nothing_yet : (buffer : List ℕ) (most used : ℕ) (s : Stream) → Fits buffer s → used ≤ most → Leaves buffer most (taken none used s buffer)
nothing_yet buffer most used s f n =
    record {
      fits = f;
      kept = refl;
      front = λ m e. let z : ◌≡◌ {A = ℕ} 0 1 = cc in absurd (omega arith);
      refuses = λ e. let z : ◌≡◌ {A = ℕ} 0 1 = cc in absurd (omega arith);
      all_there = n;
    }

refuses_all : (buffer : List ℕ) (most used : ℕ) → used ≤ most → Leaves buffer most (taken (some (refused 17)) used shut buffer)
refuses_all buffer most used n =
    record {
      fits = tt;
      kept = refl;
      front = λ m e. let r : refused 17 ≡ given m = cc in absurd (given_no m 17 (sym r));
      refuses = λ e. (refl, refl);
      all_there = n;
    }

gather_leaves : (used size filled : ℕ) (buffer rest : List ℕ) (most : ℕ) → used + length rest ≤ most
    → Leaves buffer most (gather used size filled buffer rest)
unfolding hand_out
gather_leaves used size filled buffer rest most r =
    gather_cases used size filled buffer rest (Leaves buffer most)
    (λ h. refuses_all buffer most used (omega arith))
    (λ h g.
    let new : List ℕ = take (size - filled) rest in
    let n : length new ≡ size - filled = length-take-le (size - filled) rest g in
    let k : length (over buffer filled new) ≡ length buffer = keeps new n h in
    record {
      fits = tt;
      kept = k;
      front = λ m e. front (over buffer filled new) m (omega (arith, k)) cc;
      refuses = λ e. absurd (frame_no_17 (take size (over buffer filled new)) cc);
      all_there = omega arith;
    })
    (λ h g.
    let k : length (over buffer filled rest) ≡ length buffer = length_over buffer filled rest (omega arith) in
    record {
      fits = (omega arith, omega (arith, k));
      kept = k;
      front = λ m e. let z : ◌≡◌ {A = ℕ} 0 1 = cc in absurd (omega arith);
      refuses = λ e. let z : ◌≡◌ {A = ℕ} 0 1 = cc in absurd (omega arith);
      all_there = omega arith;
    })
  where
    -- where nothing is missing nothing is put, wherever that would be
    keeps : (new : List ℕ) → length new ≡ size - filled → size ≤ length buffer → length (over buffer filled new) ≡ length buffer
    keeps [] n h = ap length (over_nil buffer filled)
    keeps (b ∷ new) n h = length_over buffer filled (b ∷ new) (omega arith)

    front : (held m : List ℕ) → size ≤ length held → frame (take size held) ≡ given m → take (length m) held ≡ m
    front held m h e =
        let f = frame_given (take size held) m e in
        let n : length m ≡ size = sym (ap length f) ∙ length-take-le size held h in
        ap (λ (k : ℕ). take k held) n ∙ f

pub gather_fits : (used size filled : ℕ) (buffer rest : List ℕ) → let t = gather used size filled buffer rest in Fits t.buffer t.stands
gather_fits used size filled buffer rest = (gather_leaves used size filled buffer rest (used + length rest) (omega arith)).fits

pub receive_leaves : (s : Stream) (buffer chunk : List ℕ) → Leaves buffer (length chunk) (receive s buffer chunk)
unfolding receive start_size end_size
receive_leaves between buffer [] = nothing_yet buffer 0 0 between tt (omega arith)
receive_leaves between buffer (high ∷ []) = nothing_yet buffer 1 1 (sizing high) tt (omega arith)
receive_leaves between buffer (high ∷ low ∷ rest) = gather_leaves (1 + 1) (number (high ∷ low ∷ [])) 0 buffer rest _ (omega arith)
receive_leaves (sizing high) buffer [] = nothing_yet buffer 0 0 (sizing high) tt (omega arith)
receive_leaves (sizing high) buffer (low ∷ rest) = gather_leaves (0 + 1) (number (high ∷ low ∷ [])) 0 buffer rest _ (omega arith)
receive_leaves (filling size filled) buffer chunk = gather_leaves 0 size filled buffer chunk _ (omega arith)
receive_leaves shut buffer chunk = refuses_all buffer (length chunk) 0 (omega arith)

-- a byte at least is used, where there is one and the stream is as calls leave it
gather_least : (used size filled : ℕ) (buffer rest : List ℕ) → used ≤ (gather used size filled buffer rest).used
unfolding hand_out
gather_least used size filled buffer rest =
    gather_cases used size filled buffer rest (λ t. used ≤ t.used) (λ h. omega arith) (λ h g. omega arith) (λ h g. omega arith)

gather_some : (size filled : ℕ) (buffer rest : List ℕ) → filled < size → size ≤ length buffer → 0 < length rest
    → 0 < (gather 0 size filled buffer rest).used
unfolding hand_out
gather_some size filled buffer rest f h n =
    gather_cases 0 size filled buffer rest (λ t. 0 < t.used) (λ l. absurd (omega arith)) (λ _ g. omega arith) (λ _ g. omega arith)

pub receive_some : (s : Stream) (buffer chunk : List ℕ) → Fits buffer s → is_shut s ≡ false → 0 < length chunk
    → 0 < (receive s buffer chunk).used
unfolding receive start_size end_size is_shut
receive_some between buffer [] f o n = absurd (omega arith)
receive_some between buffer (high ∷ []) f o n = omega arith
receive_some between buffer (high ∷ low ∷ rest) f o n = omega (arith, gather_least (1 + 1) (number (high ∷ low ∷ [])) 0 buffer rest)
receive_some (sizing high) buffer [] f o n = absurd (omega arith)
receive_some (sizing high) buffer (low ∷ rest) f o n = omega (arith, gather_least (0 + 1) (number (high ∷ low ∷ [])) 0 buffer rest)
receive_some (filling size filled) buffer chunk f o n = gather_some size filled buffer chunk f.0 f.1 n
receive_some shut buffer chunk f o n = let z : ◌≡◌ {A = ℕ} 0 1 = cc in absurd (omega arith)

pub receive_shut : (buffer chunk : List ℕ) → receive shut buffer chunk ≡ taken (some (refused 17)) 0 shut buffer
unfolding receive
receive_shut buffer chunk = refl

-- where a size is known that is more than the buffer has, a call hands out 17
module _ (buffer rest : List ℕ) where
  gather_refuses : (used size filled : ℕ) → length buffer < size → (gather used size filled buffer rest).handed ≡ some (refused 17)
  gather_refuses used size filled h = ap (λ (t : Taken). t.handed) (gather_large used size filled buffer rest h)

  pub known_size : (size filled : ℕ) → length buffer < size → (receive (filling size filled) buffer rest).handed ≡ some (refused 17)
  unfolding receive
  known_size size filled h = gather_refuses 0 size filled h

  pub ended_size : (high low : ℕ) → length buffer < number (high ∷ low ∷ []) → (receive (sizing high) buffer (low ∷ rest)).handed ≡ some (refused 17)
  unfolding receive end_size
  ended_size high low h = gather_refuses (0 + 1) (number (high ∷ low ∷ [])) 0 h

  pub read_size : (high low : ℕ) → length buffer < number (high ∷ low ∷ []) → (receive between buffer (high ∷ low ∷ rest)).handed ≡ some (refused 17)
  unfolding receive start_size end_size
  read_size high low h = gather_refuses (1 + 1) (number (high ∷ low ∷ [])) 0 h
