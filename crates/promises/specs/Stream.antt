-- Ticket 5: a stream of messages over TCP, cut anywhere.
-- Assumes nothing.
use Rattle.std.specs.Prelude.{ℕ, ◌≤◌, ◌<◌, ◌≡◌, false, length, take}
use mathlib.Core.List.{List, [], ◌∷◌, map, flatten}
use Rattle.std.proofs.Math.Option.{some}
use Rattle.facts.specs.Each.{Each}
use Rattle.facts.specs.BigEndian.{number}
use Rattle.rfc.specs.Numbers.{Answer, given, refused, least_message, most_bytes}
use Rattle.rfc.specs.Lists.{Bytes}
use Rattle.rfc.specs.Stream.{Stream, between, sizing, filling, shut, Fits, is_shut, Taken, taken, receive, frames, drain_all, Sendable, sent}

-- "If the caller lends the same buffer each time and doesn't write to it, then however the stream is cut, the messages handed out, their
-- order and the state after the last byte are those of the uncut stream." And so is what the buffer then holds
abbrev pub AsUncut : Type 0
AsUncut = (buffer : List ℕ) (chunks : List (List ℕ)) → drain_all between buffer chunks ≡ frames buffer (flatten chunks)

-- and from wherever calls left it, two ways to cut the same bytes give the same
abbrev pub CutAnywhere : Type 0
CutAnywhere =
    (s : Stream) (buffer : List ℕ) (these those : List (List ℕ))
    → Fits buffer s
    → flatten these ≡ flatten those
    → drain_all s buffer these ≡ drain_all s buffer those

-- what a call leaves, wherever the stream stood and whatever was lent
pub record CallLeaves (s : Stream) (buffer chunk : List ℕ) (t : Taken) : Type 0 where
  -- the stream stands as the statement above asks, and the buffer has its length
  pub fits : Fits t.buffer t.stands
  pub kept : length t.buffer ≡ length buffer
  -- no more bytes are used than there are; and one at least where there is one, of a stream that calls left so and did not shut
  pub most : t.used ≤ length chunk
  pub least : Fits buffer s → is_shut s ≡ false → 0 < length chunk → 0 < t.used
  -- a message stands at the buffer's front
  pub front : (m : List ℕ) → t.handed ≡ some (given m) → take (length m) t.buffer ≡ m

abbrev pub CallsLeave : Type 0
CallsLeave = (s : Stream) (buffer chunk : List ℕ) → CallLeaves s buffer chunk (receive s buffer chunk)

-- what is handed out: a message, which no reader refuses by 1 or 2, or 1, or 17
pub data Handed : Answer (List ℕ) → Type 0 where
  message : (m : List ℕ) → least_message ≤ length m → length m ≤ most_bytes → Handed (given m)
  short : Handed (refused 1)
  large : Handed (refused 17)

abbrev pub HandedOut : Type 0
HandedOut =
    (buffer : List ℕ) (chunks : List (List ℕ))
    → Bytes (flatten chunks)
    → Each Handed (drain_all between buffer chunks).handed

-- "the stream then stays refused until reset": further calls answer 17 and move nothing; and no call that answers 17 touches the buffer
abbrev pub StaysRefused : Type 0
StaysRefused =
    (s : Stream) (buffer chunk : List ℕ)
    → ((receive s buffer chunk).handed ≡ some (refused 17)
    → ((receive s buffer chunk).stands ≡ shut) × ((receive s buffer chunk).buffer ≡ buffer))
    × (receive shut buffer chunk ≡ taken (some (refused 17)) 0 shut buffer)

-- "17, before 1": wherever a size is known that is more than the buffer has, the call answers 17
abbrev pub SizeComesFirst : Type 0
SizeComesFirst =
    (buffer rest : List ℕ) (size filled high low : ℕ)
    → (length buffer < size → (receive (filling size filled) buffer rest).handed ≡ some (refused 17))
    × (length buffer < number (high ∷ low ∷ []) → (receive (sizing high) buffer (low ∷ rest)).handed ≡ some (refused 17))
    × (length buffer < number (high ∷ low ∷ []) → (receive between buffer (high ∷ low ∷ rest)).handed ≡ some (refused 17))

-- "a two-byte big-endian size, then that many bytes": messages that are sent so are handed out, all of them, in their order and as they are,
-- however the stream is cut
abbrev pub SentComesOut : Type 0
SentComesOut =
    (buffer : List ℕ) (messages chunks : List (List ℕ))
    → Each (Sendable buffer) messages
    → flatten chunks ≡ sent messages
    → ((drain_all between buffer chunks).handed ≡ map given messages) × ((drain_all between buffer chunks).stands ≡ between)
