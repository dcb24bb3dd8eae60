-- Any two answers that the contract of a function allows are equal, and so are the rooms that it leaves.
-- Assumes nothing.
use Rattle.facts.proofs.Unique.{UniqueLeft}
use Rattle.encoder.proofs.Answers.{wrote_one}
use Rattle.pen.proofs.Unique.{UniqueAdded, added_one}
use Rattle.lines.proofs.write_listing.Kinds as write-listing-kinds
use Rattle.lines.proofs.write_listing.Reads as write-listing
use Rattle.lines.proofs.put_refused.Kinds as put-refused-kinds
use Rattle.lines.proofs.put_refused.Reads as Put-refused
use Rattle.lines.proofs.put_option.Kinds as put-option-kinds
use Rattle.lines.proofs.put_option.Reads as put-option

write_listing_unique : UniqueLeft 2 write-listing-kinds.ps write-listing-kinds.r write-listing.Post (λ κs s. s.0.now)
write_listing_unique κs a x y s t p q = wrote_one p q

put_refused_unique : UniqueAdded 2 put-refused-kinds.ps put-refused-kinds.r Put-refused.Post (λ κs s. s.0.now)
put_refused_unique κs a x y s t p q = added_one p q

put_option_unique : UniqueAdded 3 put-option-kinds.ps put-option-kinds.r put-option.Post (λ κs s. s.0.now)
put_option_unique κs a x y s t p q = added_one p q
