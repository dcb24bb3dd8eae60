-- The fixed header of a message (RFC 2131, section 2, figure 1 and table 1; document 01, "The fixed header").
-- Assumes nothing.
use Rattle.std.specs.Prelude.{ℕ, suc, ◌+◌, ◌-◌, min, Bool, cond, List, [], ◌∷◌, ◌++◌, length, take, drop, eqb, ltb}
use Rattle.facts.specs.BigEndian.{number}
use Rattle.rfc.specs.Numbers.{Answer, given, Check, check, checked, too_long, too_short}

-- a part of a message: its first byte's place and how many bytes it has
pub record Part : Type 0 where
  pub start : ℕ
  pub len : ℕ

abbrev pub part : ℕ → ℕ → Part
part start len = record { start = start; len = len }

-- the bytes of a part
abbrev pub bytes_of : Part → List ℕ → List ℕ
bytes_of p message = take p.len (drop p.start message)

-- figure 1: the fields, one behind the other. (Behind `file` stands what section 3 calls the magic cookie)
abbrev pub op : Part
op = part 0 1

abbrev pub htype : Part
htype = part 1 1

abbrev pub hlen : Part
hlen = part 2 1

abbrev pub hops : Part
hops = part 3 1

abbrev pub xid : Part
xid = part 4 4

abbrev pub secs : Part
secs = part 8 2

abbrev pub flags : Part
flags = part 10 2

abbrev pub ciaddr : Part
ciaddr = part 12 4

abbrev pub yiaddr : Part
yiaddr = part 16 4

abbrev pub siaddr : Part
siaddr = part 20 4

abbrev pub giaddr : Part
giaddr = part 24 4

abbrev pub chaddr_field : Part
chaddr_field = part 28 16

abbrev pub sname_field : Part
sname_field = part 44 64

abbrev pub file_field : Part
file_field = part 108 128

abbrev pub magic_field : Part
magic_field = part 236 4

-- every reading of the header begins with these checks (document 01)
unfoldable pub message_checks : List ℕ → List Check
message_checks message = check (too_long message) 2 ∷ check (too_short message) 1 ∷ []

-- a field as a number, the highest byte first (document 01: RFC 2131 does not say it; RFC 2132, section 2, does of options)
unfoldable pub field : Part → List ℕ → Answer ℕ
field f message = checked (message_checks message) (given (number (bytes_of f message)))

-- how many bytes the hardware address has, as the message says it
unfoldable pub hlen_of : List ℕ → ℕ
hlen_of message = number (bytes_of hlen message)

-- whether an address of so many bytes has more than the 16 of figure 1's field (document 02, ticket 4)
unfoldable pub spills : ℕ → Bool
spills n = ltb chaddr_field.len n

-- what chaddr answers (document 02, ticket 4): the bytes that are shown, how many of them lie in the field proper, and whether hlen is
-- above 16
pub record Address : Type 0 where
  pub shown : Part
  pub own : ℕ
  pub spills : Bool

-- an address of so many bytes, up to 255, from chaddr's first place on: as the crate shows it, running into what stands behind the field
abbrev pub address : ℕ → Address
address n = record { shown = part chaddr_field.start n; own = min n chaddr_field.len; spills = spills n }

-- 3 (document 01): 28 + hlen is more than the message's length
unfoldable pub chaddr_cut : List ℕ → Bool
chaddr_cut message = ltb (length message) (chaddr_field.start + hlen_of message)

unfoldable pub chaddr_checks : List ℕ → List Check
chaddr_checks message = message_checks message ++ check (chaddr_cut message) 3 ∷ []

unfoldable pub chaddr : List ℕ → Answer Address
chaddr message = checked (chaddr_checks message) (given (address (hlen_of message)))

-- how many bytes stand before the first zero, or all
unfoldable pub until_zero : List ℕ → ℕ
until_zero [] = 0
until_zero (b ∷ rest) = cond (eqb b 0) 0 (suc (until_zero rest))

-- table 1: sname and file are null terminated strings; one without a zero is whole (document 01)
unfoldable pub text_field : Part → List ℕ → Answer Part
text_field f message = checked (message_checks message) (given (part f.start (until_zero (bytes_of f message))))

unfoldable pub sname : List ℕ → Answer Part
sname message = text_field sname_field message

unfoldable pub file : List ℕ → Answer Part
file message = text_field file_field message

-- section 3: the first four bytes of the options field are 99, 130, 83 and 99
abbrev pub magic : List ℕ
magic = 99 ∷ 130 ∷ 83 ∷ 99 ∷ []

unfoldable pub magic_right : List ℕ → Bool
magic_right message = eqb (number (bytes_of magic_field message)) (number magic)

-- the area of options: all that stands behind the magic, or nothing, where the magic is another
pub data Area : Type 0 where
  options : Part → Area
  wrong_magic : Area

abbrev pub area_start : ℕ
area_start = magic_field.start + magic_field.len

unfoldable pub area : List ℕ → Answer Area
area message =
    checked (message_checks message)
    (given (cond (magic_right message) (options (part area_start (length message - area_start))) wrong_magic))
