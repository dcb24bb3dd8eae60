-- Calls over an uncut stream give it frame by frame (`specs/Stream.antt`); so it is however it is cut. And what an uncut stream gives: each
-- that is handed out is a message of 240 to 65,535 bytes, or 1 or 17; and messages that are sent with their sizes are handed out.
-- Assumes nothing.
use mathlib.Core.Path.{◌≡◌, refl, sym, ap, ◌∙◌}
use Prim.Native.Nat.{ℕ, suc, zero, ◌+◌, ◌-◌, ◌≤◌, ◌<◌}
use native.Mathlib.Omega.{arith}
use native.Mathlib.Decide.{dec_le}
use mathlib.Core.List.{List, [], ◌∷◌, ◌++◌, map, flatten}
use mathlib.Core.Option.{none, some}
use lib.ListN.{length, take, drop, length-append, drop_of_length-le}
use lib.Seq.{length-take-le, take-append_seam, drop-append_seam}
use borrow.Author.Tests.{le-leb, lt-leb, lt-ltb, le-ltb}
use Rattle.facts.specs.Over.{over}
use Rattle.facts.specs.Each.{Each}
use Rattle.facts.specs.BigEndian.{number, digits}
use Rattle.facts.proofs.Over.{length_over, shown_over}
use Rattle.facts.proofs.BigEndian.{number_below, number_digits}
use Rattle.rfc.specs.Numbers.{Answer, given, refused, least_message, most_bytes}
use Rattle.rfc.specs.Lists.{Bytes}
use Rattle.rfc.specs.Stream.{Stream, between, sizing, filling, shut, too_large, frame, Taken, taken, hand_out, gather, end_size, start_size, receive, is_shut, Yield, yields, handing, frames_in, frames, drain_in, drain, drain_all, framed, sent, Sendable}
use Rattle.rfc.proofs.Stream.{frame_long, frame_cases, gather_large, gather_whole, gather_part}
use Rattle.rfc.proofs.Bytes.{byte_below, bytes_drop}
use Rattle.rfc.proofs.Cuts.{uncut}

-- nothing comes of nothing, and of a refused stream
drain_nil : (k : ℕ) (s : Stream) (buffer : List ℕ) → drain_in k s buffer [] ≡ yields [] s buffer
unfolding drain_in
drain_nil zero s buffer = refl
drain_nil (suc k) s buffer = refl

drain_shut : (k : ℕ) (buffer chunk : List ℕ) → drain_in k shut buffer chunk ≡ yields [] shut buffer
unfolding drain_in is_shut
drain_shut zero buffer chunk = refl
drain_shut (suc k) buffer [] = refl
drain_shut (suc k) buffer (b ∷ rest) = refl

-- a call over an uncut stream reads its first frame
drain_frames : (k : ℕ) (buffer stream : List ℕ) → drain_in k between buffer stream ≡ frames_in k buffer stream
unfolding drain_in frames_in receive start_size end_size is_shut handing hand_out too_large
drain_frames zero buffer stream = refl
drain_frames (suc k) buffer [] = refl
drain_frames (suc k) buffer (high ∷ []) = drain_nil k (sizing high) buffer
drain_frames (suc k) buffer (high ∷ low ∷ rest) =
    go (dec_le size (length buffer)) (dec_le size (length rest)) (λ (b l : List ℕ). drain_frames k b l)
  where
    size : ℕ
    size = number (high ∷ low ∷ [])

    goes : Taken → Yield
    goes t = handing t.handed (drain_in k t.stands t.buffer (drop t.used (high ∷ low ∷ rest)))

    go : Dec (size ≤ length buffer) → Dec (size ≤ length rest) → ((b l : List ℕ) → drain_in k between b l ≡ frames_in k b l)
        → goes (gather (1 + 1) size 0 buffer rest) ≡ frames_in (suc k) buffer (high ∷ low ∷ rest)
    go (no large) d ih =
        rw (lt-ltb (length buffer) size (omega arith))
        (ap goes (gather_large (1 + 1) size 0 buffer rest (omega arith)) ∙ ap (handing (some (refused 17))) (drain_shut k buffer rest))
    go (yes g) (yes all) ih =
        let z : size - 0 ≡ size = omega arith in
        let u : 1 + 1 + (size - 0) ≡ suc (suc size) = omega arith in
        let n : length (take size rest) ≡ size = length-take-le size rest all in
        let shows : take size (over buffer 0 (take size rest)) ≡ take size rest =
        ap (λ (m : ℕ). take m (over buffer 0 (take size rest))) (sym n) ∙ shown_over buffer 0 (take size rest) (omega (arith, n)) in
        simp (le-ltb (length buffer) size g, le-leb size (length rest) all)
        (ap goes (gather_whole (1 + 1) size 0 buffer rest g (omega arith) ∙ (λ i. hand_out (u i) size (over buffer 0 (take (z i) rest))))
        ∙ (λ i. handing (some (frame (shows i))) (ih (over buffer 0 (take size rest)) (drop size rest) i)))
    go (yes g) (no part) ih =
        let u : 1 + 1 + length rest ≡ suc (suc (length rest)) = omega arith in
        let f : 0 + length rest ≡ length rest = omega arith in
        simp (le-ltb (length buffer) size g, lt-leb size (length rest) (omega arith))
        (ap goes (gather_part (1 + 1) size 0 buffer rest g (omega arith) ∙ (λ i. taken none (u i) (filling size (f i)) (over buffer 0 rest)))
        ∙ ap (drain_in k (filling size (length rest)) (over buffer 0 rest)) (drop_of_length-le rest {i = length rest} (omega arith))
        ∙ drain_nil k (filling size (length rest)) (over buffer 0 rest))

pub as_uncut : (buffer : List ℕ) (chunks : List (List ℕ)) → drain_all between buffer chunks ≡ frames buffer (flatten chunks)
unfolding frames drain
as_uncut buffer chunks = uncut between buffer chunks tt ∙ drain_frames (length (flatten chunks)) buffer (flatten chunks)

-- what a frame of no more than 65,535 bytes may be handed out as, each frame of a stream is
module _ (P : Answer (List ℕ) → Type 0) (message : (m : List ℕ) → least_message ≤ length m → length m ≤ most_bytes → P (given m))
    (short : P (refused 1)) (large : P (refused 17)) where
  frames_in_are : (k : ℕ) (buffer stream : List ℕ) → Bytes stream → Each P (frames_in k buffer stream).handed
  unfolding frames_in handing too_large
  frames_in_are zero buffer stream b = tt
  frames_in_are (suc k) buffer [] b = tt
  frames_in_are (suc k) buffer (high ∷ []) b = tt
  frames_in_are (suc k) buffer (high ∷ low ∷ rest) b =
      go (dec_le size (length buffer)) (dec_le size (length rest))
      (frames_in_are k (over buffer 0 (take size rest)) (drop size rest) (bytes_drop size rest b.1.1))
    where
      size : ℕ
      size = number (high ∷ low ∷ [])

      below : size < 65536
      below = number_below (high ∷ low ∷ []) (byte_below (high ∷ low ∷ []) (b.0, (b.1.0, tt)))

      go : Dec (size ≤ length buffer) → Dec (size ≤ length rest) → Each P (frames_in k (over buffer 0 (take size rest)) (drop size rest)).handed
          → Each P (frames_in (suc k) buffer (high ∷ low ∷ rest)).handed
      go (no h) d ih = rw (lt-ltb (length buffer) size (omega arith)) (large, tt)
      go (yes h) (no g) ih = simp (le-ltb (length buffer) size h, lt-leb size (length rest) (omega arith)) tt
      go (yes h) (yes g) ih =
          simp (le-ltb (length buffer) size h, le-leb size (length rest) g)
          (frame_cases P (take size rest) (λ m. message (take size rest) m (omega (arith, below, length-take-le size rest g))) (λ _. short), ih)

  pub frames_are : (buffer stream : List ℕ) → Bytes stream → Each P (frames buffer stream).handed
  unfolding frames
  frames_are buffer stream b = frames_in_are (length stream) buffer stream b

-- a message that is sent is the first that is handed out
sent_first : (k : ℕ) (buffer message rest : List ℕ) → Sendable buffer message
    → frames_in (suc k) buffer (framed message ++ rest) ≡ handing (some (given message)) (frames_in k (over buffer 0 message) rest)
unfolding frames_in too_large
sent_first k buffer message rest s =
    let n : number (digits 2 (length message)) ≡ length message = number_digits 2 (length message) (omega (arith, s.most)) in
    let t : take (length message) (message ++ rest) ≡ message = take-append_seam message rest in
    let d : drop (length message) (message ++ rest) ≡ rest = drop-append_seam message rest in
    simp (n, le-ltb (length buffer) (length message) s.held, le-leb (length message) (length (message ++ rest)) (omega (arith, length-append message rest)), t, d, frame_long message s.least)

-- a buffer of the same length takes the same messages
still_sendable : (buffer other : List ℕ) (messages : List (List ℕ)) → length other ≡ length buffer → Each (Sendable buffer) messages
    → Each (Sendable other) messages
still_sendable buffer other [] n s = tt
still_sendable buffer other (m ∷ messages) n s =
    (record { least = s.0.least; most = s.0.most; held = omega (arith, s.0.held) }, still_sendable buffer other messages n s.1)

sent_in : (k : ℕ) (buffer : List ℕ) (messages : List (List ℕ)) → Each (Sendable buffer) messages → length messages ≤ k
    → ((frames_in k buffer (sent messages)).handed ≡ map given messages) × ((frames_in k buffer (sent messages)).stands ≡ between)
unfolding frames_in handing flatten
sent_in zero buffer [] s h = (refl, refl)
sent_in (suc k) buffer [] s h = (refl, refl)
sent_in zero buffer (m ∷ messages) s h = absurd (omega arith)
sent_in (suc k) buffer (m ∷ messages) s h =
    let e = sent_first k buffer m (sent messages) s.0 in
    let n = length_over buffer 0 m (omega (arith, s.0.held)) in
    let more = sent_in k (over buffer 0 m) messages (still_sendable buffer (over buffer 0 m) messages n s.1) (omega arith) in
    (ap (λ (y : Yield). y.handed) e ∙ ap (given m ∷◌) more.0, ap (λ (y : Yield). y.stands) e ∙ more.1)

-- there are no more messages than bytes
sent_length : (messages : List (List ℕ)) → length messages ≤ length (sent messages)
unfolding flatten
sent_length [] = omega arith
sent_length (m ∷ messages) = omega (arith, length-append (framed m) (sent messages), sent_length messages)

pub sent_frames : (buffer : List ℕ) (messages : List (List ℕ)) → Each (Sendable buffer) messages
    → ((frames buffer (sent messages)).handed ≡ map given messages) × ((frames buffer (sent messages)).stands ≡ between)
unfolding frames
sent_frames buffer messages s = sent_in (length (sent messages)) buffer messages s (sent_length messages)
