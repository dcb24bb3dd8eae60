-- A stream of messages over TCP: in front of each stands its size, two bytes (RFC 6926, section 6.1; document 02, ticket 5). It comes in
-- chunks that are cut anywhere. A frame is gathered at the front of a lent buffer and handed out at its last byte.
-- Assumes nothing.
use Rattle.std.specs.Prelude.{ℕ, zero, suc, ◌+◌, ◌-◌, ◌≤◌, ◌<◌, Bool, true, false, cond, length, take, drop, leb, ltb}
use mathlib.Core.List.{List, [], ◌∷◌, ◌++◌, map, flatten}
use Rattle.std.proofs.Math.Option.{Option, none, some}
use Rattle.facts.specs.Over.{over}
use Rattle.facts.specs.BigEndian.{number, digits}
use Rattle.rfc.specs.Numbers.{Answer, given, refused, least_message, most_bytes, too_short, check, checked}

-- where a stream stands
pub data Stream : Type 0 where
  -- the next byte begins a size
  between : Stream
  -- the first byte of a size was read, this one
  sizing : ℕ → Stream
  -- the size of a frame, and how many of its bytes stand in the buffer
  filling : ℕ → ℕ → Stream
  -- refused by 17, until reset; a reset is `between`
  shut : Stream

-- 17: a size is more than the lent buffer has
unfoldable pub too_large : ℕ → List ℕ → Bool
too_large size buffer = ltb (length buffer) size

-- what a whole frame is handed out as: its bytes, or 1 where they are fewer than 240
unfoldable pub frame : List ℕ → Answer (List ℕ)
frame bytes = checked (check (too_short bytes) 1 ∷ []) (given bytes)

-- what is sent: messages, each behind its size, the highest byte first (RFC 6926, section 6.1)
abbrev pub framed : List ℕ → List ℕ
framed message = digits 2 (length message) ++ message

abbrev pub sent : List (List ℕ) → List ℕ
sent messages = flatten (map framed messages)

-- a message that a stream read into this buffer can carry
pub record Sendable (buffer message : List ℕ) : Type 0 where
  pub least : least_message ≤ length message
  pub most : length message ≤ most_bytes
  pub held : length message ≤ length buffer

-- what comes of some bytes of a stream: what is handed out, in its order, where the stream then stands, and what the buffer then holds
pub record Yield : Type 0 where
  pub handed : List (Answer (List ℕ))
  pub stands : Stream
  pub buffer : List ℕ

abbrev pub yields : List (Answer (List ℕ)) → Stream → List ℕ → Yield
yields handed stands buffer = record { handed = handed; stands = stands; buffer = buffer }

-- what is handed out, or nothing, in front of what comes behind it
unfoldable pub handing : Option (Answer (List ℕ)) → Yield → Yield
handing none y = y
handing (some f) y = yields (f ∷ y.handed) y.stands y.buffer

-- an uncut stream, no more than so many frames of it: a size, so many bytes, and again
unfoldable pub frames_in : ℕ → List ℕ → List ℕ → Yield
frames_in zero buffer stream = yields [] between buffer
frames_in (suc k) buffer [] = yields [] between buffer
frames_in (suc k) buffer (high ∷ []) = yields [] (sizing high) buffer
frames_in (suc k) buffer (high ∷ low ∷ rest) =
    let size = number (high ∷ low ∷ []) in
    cond (too_large size buffer)
    (yields (refused 17 ∷ []) shut buffer)
    (cond (leb size (length rest))
    (handing (some (frame (take size rest))) (frames_in k (over buffer 0 (take size rest)) (drop size rest)))
    (yields [] (filling size (length rest)) (over buffer 0 rest)))

-- an uncut stream from its first byte on; a frame takes two bytes or more, so there are no more than the stream has bytes
unfoldable pub frames : List ℕ → List ℕ → Yield
frames buffer stream = frames_in (length stream) buffer stream

-- what one call answers and leaves: what it hands out, or nothing yet; how many bytes of the chunk it used; where the stream stands; and
-- what the buffer holds
pub record Taken : Type 0 where
  pub handed : Option (Answer (List ℕ))
  pub used : ℕ
  pub stands : Stream
  pub buffer : List ℕ

abbrev pub taken : Option (Answer (List ℕ)) → ℕ → Stream → List ℕ → Taken
taken handed used stands buffer = record { handed = handed; used = used; stands = stands; buffer = buffer }

-- a frame's last byte stands in the buffer: the frame is handed out, and the next byte begins a size
unfoldable pub hand_out : ℕ → ℕ → List ℕ → Taken
hand_out used size buffer = taken (some (frame (take size buffer))) used between buffer

-- a frame of this size is gathered: `filled` of its bytes stand in the buffer, and `rest` is left of the chunk
unfoldable pub gather : ℕ → ℕ → ℕ → List ℕ → List ℕ → Taken
gather used size filled buffer rest =
    cond (too_large size buffer)
    (taken (some (refused 17)) used shut buffer)
    (cond (leb (size - filled) (length rest))
    (hand_out (used + (size - filled)) size (over buffer filled (take (size - filled) rest)))
    (taken none (used + length rest) (filling size (filled + length rest)) (over buffer filled rest)))

-- the next byte ends a size whose first byte was read
unfoldable pub end_size : ℕ → ℕ → List ℕ → List ℕ → Taken
end_size used high buffer [] = taken none used (sizing high) buffer
end_size used high buffer (low ∷ rest) = gather (used + 1) (number (high ∷ low ∷ [])) 0 buffer rest

-- the next byte begins a size
unfoldable pub start_size : List ℕ → List ℕ → Taken
start_size buffer [] = taken none 0 between buffer
start_size buffer (high ∷ rest) = end_size 1 high buffer rest

-- one call: the chunk is read up to the first frame that it completes, or to its end. A refused stream is refused again, and moves nothing
unfoldable pub receive : Stream → List ℕ → List ℕ → Taken
receive between buffer chunk = start_size buffer chunk
receive (sizing high) buffer chunk = end_size 0 high buffer chunk
receive (filling size filled) buffer chunk = gather 0 size filled buffer chunk
receive shut buffer chunk = taken (some (refused 17)) 0 shut buffer

-- whether a stream is refused
unfoldable pub is_shut : Stream → Bool
is_shut between = false
is_shut (sizing high) = false
is_shut (filling size filled) = false
is_shut shut = true

-- call after call over one chunk, no more than so many: each goes on where the one before it left off, and none behind a 17
unfoldable pub drain_in : ℕ → Stream → List ℕ → List ℕ → Yield
drain_in zero s buffer chunk = yields [] s buffer
drain_in (suc k) s buffer [] = yields [] s buffer
drain_in (suc k) s buffer (b ∷ rest) =
    let t = receive s buffer (b ∷ rest) in
    cond (is_shut s)
    (yields [] s buffer)
    (handing t.handed (drain_in k t.stands t.buffer (drop t.used (b ∷ rest))))

-- a chunk takes no more calls than it has bytes
unfoldable pub drain : Stream → List ℕ → List ℕ → Yield
drain s buffer chunk = drain_in (length chunk) s buffer chunk

-- chunk after chunk, with the same buffer lent each time
unfoldable pub drain_all : Stream → List ℕ → List (List ℕ) → Yield
drain_all s buffer [] = yields [] s buffer
drain_all s buffer (chunk ∷ chunks) =
    let y = drain s buffer chunk in
    let more = drain_all y.stands y.buffer chunks in
    yields (y.handed ++ more.handed) more.stands more.buffer

-- where calls with this buffer leave a stream: of a frame that is not whole a byte or more is missing, and the buffer has room for all
abbrev pub Fits : List ℕ → Stream → Type 0
Fits buffer between = Unit {0}
Fits buffer (sizing high) = Unit {0}
Fits buffer (filling size filled) = (filled < size) × (size ≤ length buffer)
Fits buffer shut = Unit {0}
