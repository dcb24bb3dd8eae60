-- What a call of the stream's reader answers and leaves, over the definitions of `Rattle.rfc.specs.Stream`.
-- Assumes nothing.
use Rattle.std.specs.Prelude.{ℕ, cond, ltb, ◌≡◌, List, length, Option, Some, None, Result, Ok, Err}
use Rattle.std.proofs.Math.Option as math
use Rattle.rfc.specs.Numbers.{Answer, given, refused, needs, least_message}
use Rattle.rfc.specs.Stream as rfc
use Rattle.refusal.specs.declared.Refusal.{Refusal}
use Rattle.refusal.specs.declared.Refusal.TheVariants.{MessageTooShort}
use Rattle.refusal.specs.Told.{told}
use Rattle.stream.specs.declared.Stream.{Stream}
use Rattle.stream.specs.declared.Stream.TheVariants.{Between, Sizing, Filling, Shut}
use Rattle.stream.specs.declared.Taken.{Taken}

-- where a stream stands, by the definition
abbrev pub stands_at : Stream → rfc.Stream
stands_at Between = rfc.between
stands_at (Sizing high) = rfc.sizing high
stands_at (Filling size filled) = rfc.filling size filled
stands_at Shut = rfc.shut

-- and by the code
abbrev pub stream_of : rfc.Stream → Stream
stream_of rfc.between = Between
stream_of (rfc.sizing high) = Sizing high
stream_of (rfc.filling size filled) = Filling size filled
stream_of rfc.shut = Shut

-- what is handed out, a message by its length; that its bytes stand at the buffer's front is a promise (`CallsLeave`)
abbrev pub handed : math.Option (Answer (List ℕ)) → Answer (Option ℕ)
handed math.none = given None
handed (math.some (given message)) = given (Some (length message))
handed (math.some (refused number)) = refused number
handed (math.some (needs len)) = needs len

-- a call answers r and leaves the buffer so
pub record Took (t : rfc.Taken) (buffer : List ℕ) (r : Taken) : Type 0 where
  pub tells : told r.frame ≡ handed t.handed
  pub used : r.used ≡ t.used
  pub stands : r.stream ≡ stream_of t.stands
  pub left : buffer ≡ t.buffer

-- Between the functions of the crate: an answer by its parts, and that of a call that handed out a whole frame of this size
abbrev pub taken_of : Result (Option ℕ) Refusal → ℕ → Stream → Taken
taken_of frame used stream = record { frame = frame; used = used; stream = stream }

abbrev pub handed_over : ℕ → ℕ → Taken
handed_over size used = taken_of (cond (ltb size least_message) (Err MessageTooShort) (Ok (Some size))) used Between
