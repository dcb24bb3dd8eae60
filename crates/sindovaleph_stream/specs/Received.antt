-- How a stream and the answer of a call cross the boundary, as plain numbers.
-- Assumes nothing.
use Rattle.std.specs.Prelude.{ℕ, ◌≡◌, cond, List, eqb, Option, Some, None}
use Rattle.rfc.specs.Numbers.{Answer, given, refused, needs}
use Rattle.rfc.specs.Stream as rfc
use Rattle.refusal.specs.Told.{told}
use Rattle.stream.specs.Streamed.{handed, stream_of}
use Rattle.stream.specs.declared.Stream as state
use Rattle.stream.specs.declared.Stream.TheVariants.{Between, Sizing, Filling, Shut}
use Rattle.stream.specs.declared.Taken.{Taken}
use Rattle.sindovaleph_stream.specs.declared.Stream.{Stream}
use Rattle.sindovaleph_stream.specs.declared.Received.{Received}

-- the stream that plain numbers stand for
abbrev pub state_of : Stream → state.Stream
state_of s =
    cond (eqb s.state 0) Between (cond (eqb s.state 1) (Sizing s.high) (cond (eqb s.state 2) (Filling s.size s.filled) Shut))

-- the plain numbers that stand for a stream
abbrev pub plain_of : state.Stream → Stream
plain_of Between = record { state = 0; high = 0; size = 0; filled = 0 }
plain_of (Sizing high) = record { state = 1; high = high; size = 0; filled = 0 }
plain_of (Filling size filled) = record { state = 2; high = 0; size = size; filled = filled }
plain_of Shut = record { state = 3; high = 0; size = 0; filled = 0 }

-- the number of a refusal, 0 for none
abbrev pub refusal_of : Answer (Option ℕ) → ℕ
refusal_of (given frame) = 0
refusal_of (refused k) = k
refusal_of (needs len) = 5

-- the length of a message, 0 for none
abbrev pub len_of : Answer (Option ℕ) → ℕ
len_of (given None) = 0
len_of (given (Some len)) = len
len_of (refused k) = 0
len_of (needs len) = 0

-- an answer as plain numbers
abbrev pub received_as : Answer (Option ℕ) → ℕ → state.Stream → Received
received_as frame used stream = record { refused = refusal_of frame; len = len_of frame; used = used; stream = plain_of stream }

abbrev pub received_of : rfc.Taken → Received
received_of t = received_as (handed t.handed) t.used (stream_of t.stands)

-- a call answers r and leaves the buffer so
pub record Receives (t : rfc.Taken) (buffer : List ℕ) (r : Received) : Type 0 where
  pub told : r ≡ received_of t
  pub left : buffer ≡ t.buffer

-- Between the functions of the crate: an answer of the code
abbrev pub received_here : Taken → Received
received_here t = received_as (told t.frame) t.used t.stream
