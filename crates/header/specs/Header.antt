-- What the contracts of the fixed header's readers say, over the definitions of `Rattle.rfc.specs.Header`.
-- Assumes nothing.
use Rattle.std.specs.Prelude.{ℕ, ◌+◌, ◌≤◌, ◌<◌, ◌≡◌, Bool, true, false, cond, List, eqb, Option, Some, None, Result, Ok, Err}
use Rattle.rfc.specs.Numbers.{Answer, given, refused, needs, checked, least_message}
use Rattle.rfc.specs.Header as rfc
use Rattle.refusal.specs.declared.Refusal.{Refusal}
use Rattle.refusal.specs.Told.{says}
use Rattle.header.specs.declared.Span.{Span}
use Rattle.header.specs.declared.Chaddr.{Chaddr}
use Rattle.header.specs.declared.Fields.{Fields}

-- the definition's words for each that an answer gives
abbrev pub part_of : Span → rfc.Part
part_of s = rfc.part s.start s.len

abbrev pub address_of : Chaddr → rfc.Address
address_of a = record { shown = rfc.part a.start a.len; own = a.own; spills = a.spills }

abbrev pub area_of : Option Span → rfc.Area
area_of (Some s) = rfc.options (part_of s)
area_of None = rfc.wrong_magic

-- what an answer says in them
abbrev pub said : {A B : Type 0} → (A → B) → Result A Refusal → Answer B
said word (Ok a) = given (word a)
said word (Err e) = says e

abbrev pub says_part : Result Span Refusal → Answer rfc.Part
says_part = said part_of

abbrev pub says_address : Result Chaddr Refusal → Answer rfc.Address
says_address = said address_of

abbrev pub says_area : Result (Option Span) Refusal → Answer rfc.Area
says_area = said area_of

-- what all fields at once say of an answer. The number of a refusal, 0 for none
abbrev pub refusal_in : {A : Type 0} → Answer A → ℕ
refusal_in (given a) = 0
refusal_in (refused k) = k
refusal_in (needs len) = 5

-- something of what was asked for, or something else where that is refused
abbrev pub of_given : {A B : Type 0} → (A → B) → B → Answer A → B
of_given f other (given a) = f a
of_given f other (refused k) = other
of_given f other (needs len) = other

-- the number that was asked for
abbrev pub number_in : Answer ℕ → ℕ
number_in = of_given (λ (n : ℕ). n) 0

-- how many bytes are shown
abbrev pub len_in : Answer rfc.Part → ℕ
len_in = of_given (λ (p : rfc.Part). p.len) 0

-- of the address: how many bytes lie in its field, and whether there are more
abbrev pub own_in : Answer rfc.Address → ℕ
own_in = of_given (λ (x : rfc.Address). x.own) 0

abbrev pub spills_in : Answer rfc.Address → Bool
spills_in = of_given (λ (x : rfc.Address). x.spills) false

-- 3 where its bytes are not all there, else 0
abbrev pub cut_in : Answer rfc.Address → ℕ
cut_in (given x) = 0
cut_in (refused k) = cond (eqb k 3) 3 0
cut_in (needs len) = 0

-- whether the magic is another
abbrev pub magic_in : Answer rfc.Area → Bool
magic_in (given (rfc.options p)) = false
magic_in (given rfc.wrong_magic) = true
magic_in (refused k) = false
magic_in (needs len) = false

-- all fields of a message; one check refuses them all
abbrev pub all_of : List ℕ → Fields
all_of message =
    record {
      xid = number_in (rfc.field rfc.xid message);
      ciaddr = number_in (rfc.field rfc.ciaddr message);
      yiaddr = number_in (rfc.field rfc.yiaddr message);
      siaddr = number_in (rfc.field rfc.siaddr message);
      giaddr = number_in (rfc.field rfc.giaddr message);
      secs = number_in (rfc.field rfc.secs message);
      flags = number_in (rfc.field rfc.flags message);
      sname = len_in (rfc.sname message);
      file = len_in (rfc.file message);
      chaddr_own = own_in (rfc.chaddr message);
      refused = refusal_in (rfc.field rfc.op message);
      op = number_in (rfc.field rfc.op message);
      htype = number_in (rfc.field rfc.htype message);
      hlen = number_in (rfc.field rfc.hlen message);
      hops = number_in (rfc.field rfc.hops message);
      chaddr_refused = cut_in (rfc.chaddr message);
      chaddr_spills = spills_in (rfc.chaddr message);
      wrong_magic = magic_in (rfc.area message);
    }

-- Between the functions of the crate: the fields of a message that this number refuses
abbrev pub none_of : ℕ → Fields
none_of k =
    record {
      xid = 0;
      ciaddr = 0;
      yiaddr = 0;
      siaddr = 0;
      giaddr = 0;
      secs = 0;
      flags = 0;
      sname = 0;
      file = 0;
      chaddr_own = 0;
      refused = k;
      op = 0;
      htype = 0;
      hlen = 0;
      hops = 0;
      chaddr_refused = 0;
      chaddr_spills = false;
      wrong_magic = false;
    }

-- the checks of every reading refuse a message so
abbrev pub Stopped : List ℕ → Refusal → Type 0
Stopped message e = says e ≡ checked (rfc.message_checks message) (given (tt {0}))

-- bytes that every message has
abbrev pub Inside : ℕ → ℕ → Type 0
Inside start size = start + size ≤ least_message

-- such bytes, as many as a number of the header has: one, two or four
pub record Sized (start size : ℕ) : Type 0 where
  pub inside : Inside start size
  pub some : 0 < size
  pub most : size ≤ 4
  pub not_three : size ≡ 3 → ⊥
