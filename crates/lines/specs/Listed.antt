-- What the line of the header's numbers asks of a message.
-- Assumes nothing.
use Rattle.std.specs.Prelude.{ℕ, ◌≤◌, List, length}
use Rattle.rfc.specs.Numbers.{least_message}
use Rattle.lines.specs.Listing.{most_listed}

-- a message that is listed
pub record Listed (message : List ℕ) : Type 0 where
  pub least : least_message ≤ length message
  pub most : length message ≤ most_listed
