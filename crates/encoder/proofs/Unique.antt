-- Any two answers that the contract of a function allows are equal, and so are the rooms that a writer leaves.
-- Assumes nothing.
use mathlib.Core.Path.{sym, ◌∙◌}
use denote.RattleType.{RattleType}
use denote.Param.Laws.{Laws, IsCopy}
use mir.Syntax.{Dict}
use Rattle.std.specs.declared.clone.Clone as Clone
use Rattle.encoder.specs.declared.Number as Number
use Rattle.facts.proofs.Unique.{Unique, UniqueLeft}
use Rattle.encoder.proofs.Answers.{wrote_one}
use Rattle.encoder.proofs.write_slice.Kinds as write-slice-kinds
use Rattle.encoder.proofs.write_slice.Reads as write-slice
use Rattle.encoder.proofs.write_numbers.Kinds as write-numbers-kinds
use Rattle.encoder.proofs.write_numbers.Reads as write-numbers
use Rattle.encoder.proofs.u16_bytes.Kinds as u16-bytes-kinds
use Rattle.encoder.proofs.u16_bytes.Reads as u16-bytes
use Rattle.encoder.proofs.u32_bytes.Kinds as u32-bytes-kinds
use Rattle.encoder.proofs.u32_bytes.Reads as u32-bytes
use Rattle.encoder.proofs.i32_bytes.Kinds as i32-bytes-kinds
use Rattle.encoder.proofs.i32_bytes.Reads as i32-bytes
use Rattle.encoder.proofs.bits_of.Kinds as bits-of-kinds
use Rattle.encoder.proofs.bits_of.Reads as bits_of

write_slice_unique : UniqueLeft 2 write-slice-kinds.ps write-slice-kinds.r write-slice.Post (λ κs s. s.0.now)
write_slice_unique κs a x y s t p q = wrote_one p q

-- of numbers of any type
module _ (T : RattleType) (laws : Laws T) (copy : IsCopy T) (g : Number.Ghosts T.Denot) (d : Dict) (h : Clone.Ghosts T.Denot) (e : Dict) where
  write_numbers_unique : UniqueLeft 3 (write-numbers-kinds.ps T laws copy) (write-numbers-kinds.r T laws copy)
      (write-numbers.Post T laws copy g d h e) (λ κs s. s.0.now)
  write_numbers_unique κs a x y s t p q = wrote_one p q

u16_bytes_unique : Unique 0 u16-bytes-kinds.ps u16-bytes-kinds.r u16-bytes.Post
u16_bytes_unique κs a x y s t p q = p ∙ sym q

u32_bytes_unique : Unique 0 u32-bytes-kinds.ps u32-bytes-kinds.r u32-bytes.Post
u32_bytes_unique κs a x y s t p q = p ∙ sym q

i32_bytes_unique : Unique 0 i32-bytes-kinds.ps i32-bytes-kinds.r i32-bytes.Post
i32_bytes_unique κs a x y s t p q = p ∙ sym q

bits_of_unique : Unique 0 bits-of-kinds.ps bits-of-kinds.r bits_of.Post
bits_of_unique κs a x y s t p q = p ∙ sym q
