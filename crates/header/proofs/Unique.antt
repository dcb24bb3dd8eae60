-- Any two answers that the contract of a reader of the header allows are equal.
-- Assumes nothing.
use mathlib.Core.Path.{◌≡◌, refl, sym, ap, ◌∙◌}
use Rattle.facts.proofs.Unique.{Unique}
use Rattle.std.specs.Prelude.{Result, Ok, Err, Option, Some, None}
use Rattle.refusal.specs.declared.Refusal.{Refusal}
use Rattle.refusal.specs.Told.{told}
use Rattle.refusal.proofs.Told.{told_one}
use Rattle.header.specs.Header.{part_of, address_of, area_of, said}
use Rattle.header.specs.declared.Span.{Span}
use Rattle.header.specs.declared.Chaddr.{Chaddr}
use Rattle.header.proofs.Header.op.Kinds as op-kinds
use Rattle.header.proofs.Header.op.Reads as op
use Rattle.header.proofs.Header.htype.Kinds as htype-kinds
use Rattle.header.proofs.Header.htype.Reads as htype
use Rattle.header.proofs.Header.hlen.Kinds as hlen-kinds
use Rattle.header.proofs.Header.hlen.Reads as hlen
use Rattle.header.proofs.Header.hops.Kinds as hops-kinds
use Rattle.header.proofs.Header.hops.Reads as hops
use Rattle.header.proofs.Header.xid.Kinds as xid-kinds
use Rattle.header.proofs.Header.xid.Reads as xid
use Rattle.header.proofs.Header.secs.Kinds as secs-kinds
use Rattle.header.proofs.Header.secs.Reads as secs
use Rattle.header.proofs.Header.flags.Kinds as flags-kinds
use Rattle.header.proofs.Header.flags.Reads as flags
use Rattle.header.proofs.Header.ciaddr.Kinds as ciaddr-kinds
use Rattle.header.proofs.Header.ciaddr.Reads as ciaddr
use Rattle.header.proofs.Header.yiaddr.Kinds as yiaddr-kinds
use Rattle.header.proofs.Header.yiaddr.Reads as yiaddr
use Rattle.header.proofs.Header.siaddr.Kinds as siaddr-kinds
use Rattle.header.proofs.Header.siaddr.Reads as siaddr
use Rattle.header.proofs.Header.giaddr.Kinds as giaddr-kinds
use Rattle.header.proofs.Header.giaddr.Reads as giaddr
use Rattle.header.proofs.Header.chaddr.Kinds as chaddr-kinds
use Rattle.header.proofs.Header.chaddr.Reads as chaddr
use Rattle.header.proofs.Header.sname.Kinds as sname-kinds
use Rattle.header.proofs.Header.sname.Reads as sname
use Rattle.header.proofs.Header.file.Kinds as file-kinds
use Rattle.header.proofs.Header.file.Reads as file
use Rattle.header.proofs.Header.area.Kinds as area-kinds
use Rattle.header.proofs.Header.area.Reads as area
use Rattle.header.proofs.Header.all.Kinds as all_kinds
use Rattle.header.proofs.Header.all.Reads as all

-- what is said is told in the definition's words
module _ {A B : Type 0} (word : A → B) where
  in_words : Result A Refusal → Result B Refusal
  in_words (Ok a) = Ok (word a)
  in_words (Err e) = Err e

  said_told : (r : Result A Refusal) → said word r ≡ told (in_words r)
  unfolding in_words
  said_told (Ok a) = refl
  said_told (Err e) = refl

  -- so two answers that say the same are one, where each thing has a word of its own
  module _ (one : (a b : A) → word a ≡ word b → a ≡ b) where
    in_words_one : (r q : Result A Refusal) → in_words r ≡ in_words q → r ≡ q
    unfolding in_words
    in_words_one (Ok a) (Ok b) e = let same : word a ≡ word b = cc in ap Ok (one a b same)
    in_words_one (Ok a) (Err f) e = cc
    in_words_one (Err d) (Ok b) e = cc
    in_words_one (Err d) (Err f) e = let same : d ≡ f = cc in ap Err same

    said_one : (r q : Result A Refusal) → said word r ≡ said word q → r ≡ q
    said_one r q e = in_words_one r q (told_one _ _ (sym (said_told r) ∙ e ∙ said_told q))

part_one : (a b : Span) → part_of a ≡ part_of b → a ≡ b
part_one a b e = λ i. record { start = (e i).start; len = (e i).len }

address_one : (a b : Chaddr) → address_of a ≡ address_of b → a ≡ b
address_one a b e = λ i. record { start = (e i).shown.start; len = (e i).shown.len; own = (e i).own; spills = (e i).spills }

area_one : (a b : Option Span) → area_of a ≡ area_of b → a ≡ b
area_one (Some a) (Some b) e = let same : part_of a ≡ part_of b = cc in ap Some (part_one a b same)
area_one (Some a) None e = cc
area_one None (Some b) e = cc
area_one None None e = refl

op_unique : Unique 1 op-kinds.ps op-kinds.r op.Post
op_unique κs a x y s t p q = told_one x y (p ∙ sym q)

htype_unique : Unique 1 htype-kinds.ps htype-kinds.r htype.Post
htype_unique κs a x y s t p q = told_one x y (p ∙ sym q)

hlen_unique : Unique 1 hlen-kinds.ps hlen-kinds.r hlen.Post
hlen_unique κs a x y s t p q = told_one x y (p ∙ sym q)

hops_unique : Unique 1 hops-kinds.ps hops-kinds.r hops.Post
hops_unique κs a x y s t p q = told_one x y (p ∙ sym q)

xid_unique : Unique 1 xid-kinds.ps xid-kinds.r xid.Post
xid_unique κs a x y s t p q = told_one x y (p ∙ sym q)

secs_unique : Unique 1 secs-kinds.ps secs-kinds.r secs.Post
secs_unique κs a x y s t p q = told_one x y (p ∙ sym q)

flags_unique : Unique 1 flags-kinds.ps flags-kinds.r flags.Post
flags_unique κs a x y s t p q = told_one x y (p ∙ sym q)

ciaddr_unique : Unique 1 ciaddr-kinds.ps ciaddr-kinds.r ciaddr.Post
ciaddr_unique κs a x y s t p q = told_one x y (p ∙ sym q)

yiaddr_unique : Unique 1 yiaddr-kinds.ps yiaddr-kinds.r yiaddr.Post
yiaddr_unique κs a x y s t p q = told_one x y (p ∙ sym q)

siaddr_unique : Unique 1 siaddr-kinds.ps siaddr-kinds.r siaddr.Post
siaddr_unique κs a x y s t p q = told_one x y (p ∙ sym q)

giaddr_unique : Unique 1 giaddr-kinds.ps giaddr-kinds.r giaddr.Post
giaddr_unique κs a x y s t p q = told_one x y (p ∙ sym q)

chaddr_unique : Unique 1 chaddr-kinds.ps chaddr-kinds.r chaddr.Post
chaddr_unique κs a x y s t p q = said_one address_of address_one x y (p ∙ sym q)

sname_unique : Unique 1 sname-kinds.ps sname-kinds.r sname.Post
sname_unique κs a x y s t p q = said_one part_of part_one x y (p ∙ sym q)

file_unique : Unique 1 file-kinds.ps file-kinds.r file.Post
file_unique κs a x y s t p q = said_one part_of part_one x y (p ∙ sym q)

area_unique : Unique 1 area-kinds.ps area-kinds.r area.Post
area_unique κs a x y s t p q = said_one area_of area_one x y (p ∙ sym q)

all_unique : Unique 1 all_kinds.ps all_kinds.r all.Post
all_unique κs a x y s t p q = p ∙ sym q
