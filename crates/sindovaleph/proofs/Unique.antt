-- Any two answers that the contract of an exported function allows are equal, and so is what they leave in lent memory.
-- Assumes nothing.
use mathlib.Core.Path.{sym, ◌∙◌}
use Rattle.facts.proofs.Unique.{Unique, UniqueLeft}
use Rattle.crossing.proofs.Carries.{wrote_one}
use Rattle.sindovaleph.proofs.sindovaleph_boundary_5.Kinds as boundary-kinds
use Rattle.sindovaleph.proofs.sindovaleph_boundary_5.Reads as boundary
use Rattle.sindovaleph.proofs.sindovaleph_header.Kinds as header-kinds
use Rattle.sindovaleph.proofs.sindovaleph_header.Reads as header
use Rattle.sindovaleph.proofs.sindovaleph_xid.Kinds as xid-kinds
use Rattle.sindovaleph.proofs.sindovaleph_xid.Reads as xid
use Rattle.sindovaleph.proofs.sindovaleph_kind_of.Kinds as kind-of-kinds
use Rattle.sindovaleph.proofs.sindovaleph_kind_of.Reads as kind-of
use Rattle.sindovaleph.proofs.sindovaleph_is_utf8.Kinds as is-utf8-kinds
use Rattle.sindovaleph.proofs.sindovaleph_is_utf8.Reads as is-utf8
use Rattle.sindovaleph.proofs.sindovaleph_step.Kinds as step-kinds
use Rattle.sindovaleph.proofs.sindovaleph_step.Reads as step
use Rattle.sindovaleph.proofs.sindovaleph_write_bytes.Kinds as write-bytes-kinds
use Rattle.sindovaleph.proofs.sindovaleph_write_bytes.Reads as write_bytes
use Rattle.sindovaleph.proofs.sindovaleph_close.Kinds as close-kinds
use Rattle.sindovaleph.proofs.sindovaleph_close.Reads as close

boundary_unique : Unique 0 boundary-kinds.ps boundary-kinds.r boundary.Post
boundary_unique κs a x y s t p q = p ∙ sym q

header_unique : Unique 1 header-kinds.ps header-kinds.r header.Post
header_unique κs a x y s t p q = p ∙ sym q

xid_unique : Unique 1 xid-kinds.ps xid-kinds.r xid.Post
xid_unique κs a x y s t p q = p ∙ sym q

kind_of_unique : Unique 0 kind-of-kinds.ps kind-of-kinds.r kind-of.Post
kind_of_unique κs a x y s t p q = p ∙ sym q

is_utf8_unique : Unique 1 is-utf8-kinds.ps is-utf8-kinds.r is-utf8.Post
is_utf8_unique κs a x y s t p q = p ∙ sym q

step_unique : UniqueLeft 2 step-kinds.ps step-kinds.r step.Post (λ κs s. s.1.1.0.now)
step_unique κs a x y s t p q = (p.told ∙ sym q.told, p.kept ∙ sym q.kept)

write_bytes_unique : UniqueLeft 2 write-bytes-kinds.ps write-bytes-kinds.r write_bytes.Post (λ κs s. s.0.now)
write_bytes_unique κs a x y s t p q = wrote_one p q

close_unique : UniqueLeft 1 close-kinds.ps close-kinds.r close.Post (λ κs s. s.0.now)
close_unique κs a x y s t p q = wrote_one p q
