-- What is told of the hardware address (document 02, ticket 4): whether it is longer than its field, and how many of its bytes lie there.
-- Assumes nothing.
use Rattle.std.specs.Prelude.{ℕ, ◌-◌, ◌≤◌, ◌<◌, ◌≡◌, true, false, List, ◌++◌, take, drop}
use Rattle.rfc.specs.Numbers.{given}
use Rattle.rfc.specs.Header.{part, bytes_of, chaddr_field, sname_field, hlen_of, Address, chaddr}

-- what an answer says of the address of a message is so
pub record AddressTold (message : List ℕ) (x : Address) : Type 0 where
  -- the bytes shown are document 01's: hlen of them
  pub shows : x.shown ≡ part chaddr_field.start (hlen_of message)
  -- "whether hlen is above 16"
  pub above : x.spills ≡ true → 16 < hlen_of message
  pub not_above : x.spills ≡ false → hlen_of message ≤ 16
  -- "how many of its bytes lie in the field proper": the first are so many of the field, and the others stand behind it
  pub bytes : bytes_of x.shown message
      ≡ take x.own (bytes_of chaddr_field message) ++ take (hlen_of message - x.own) (drop sname_field.start message)
  -- so none are behind it, or the field is full
  pub all_own : x.spills ≡ false → x.own ≡ hlen_of message
  pub full_field : x.spills ≡ true → x.own ≡ chaddr_field.len

-- "The chaddr answer must also say whether hlen is above 16, and how many of its bytes lie in the field proper."
abbrev pub SpillTold : Type 0
SpillTold = (message : List ℕ) (x : Address) → chaddr message ≡ given x → AddressTold message x
