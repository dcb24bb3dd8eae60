-- Any two answers that a contract of this crate allows are equal.
-- Assumes nothing.
use mathlib.Core.Path.{sym, ◌∙◌}
use Rattle.facts.proofs.Unique.{Unique}
use Rattle.decoder.proofs.be_u16.Kinds as be-u16-kinds
use Rattle.decoder.proofs.be_u16.Reads as be-u16
use Rattle.decoder.proofs.be_u32.Kinds as be-u32-kinds
use Rattle.decoder.proofs.be_u32.Reads as be-u32
use Rattle.decoder.proofs.be_i32.Kinds as be-i32-kinds
use Rattle.decoder.proofs.be_i32.Reads as be-i32
use Rattle.decoder.proofs.u16_at.Kinds as u16-at-kinds
use Rattle.decoder.proofs.u16_at.Reads as u16-at
use Rattle.decoder.proofs.u32_at.Kinds as u32-at-kinds
use Rattle.decoder.proofs.u32_at.Reads as u32-at

be_u16_unique : Unique 0 be-u16-kinds.ps be-u16-kinds.r be-u16.Post
be_u16_unique κs a x y s t p q = p ∙ sym q

be_u32_unique : Unique 0 be-u32-kinds.ps be-u32-kinds.r be-u32.Post
be_u32_unique κs a x y s t p q = p ∙ sym q

be_i32_unique : Unique 0 be-i32-kinds.ps be-i32-kinds.r be-i32.Post
be_i32_unique κs a x y s t p q = p ∙ sym q

u16_at_unique : Unique 1 u16-at-kinds.ps u16-at-kinds.r u16-at.Post
u16_at_unique κs a x y s t p q = p ∙ sym q

u32_at_unique : Unique 1 u32-at-kinds.ps u32-at-kinds.r u32-at.Post
u32_at_unique κs a x y s t p q = p ∙ sym q
