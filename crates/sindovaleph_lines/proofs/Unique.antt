-- Any two answers that the contract of the exported function allows are equal, and so is what they leave in lent memory.
-- Assumes nothing.
use Rattle.facts.proofs.Unique.{UniqueLeft}
use Rattle.crossing.proofs.Carries.{wrote_one}
use Rattle.sindovaleph_lines.proofs.sindovaleph_write_listing.Kinds as write-listing-kinds
use Rattle.sindovaleph_lines.proofs.sindovaleph_write_listing.Reads as write-listing

write_listing_unique : UniqueLeft 2 write-listing-kinds.ps write-listing-kinds.r write-listing.Post (λ κs s. s.0.now)
write_listing_unique κs a x y s t p q = wrote_one p q
