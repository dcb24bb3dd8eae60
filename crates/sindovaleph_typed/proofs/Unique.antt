-- Any two answers that the contract of an exported function allows are equal, and so is what they leave in lent memory.
-- Assumes nothing.
use mathlib.Core.List.{List}
use Prim.Native.Nat.{ℕ}
use Rattle.facts.proofs.Unique.{UniqueLeft, UniqueByHand, together}
use Rattle.crossing.proofs.Carries.{wrote_one}
use Rattle.sindovaleph_typed.proofs.writing.sindovaleph_write_address.Kinds as write-address-kinds
use Rattle.sindovaleph_typed.proofs.writing.sindovaleph_write_address.Reads as write-address
use Rattle.sindovaleph_typed.proofs.writing.sindovaleph_write_byte.Kinds as write-byte-kinds
use Rattle.sindovaleph_typed.proofs.writing.sindovaleph_write_byte.Reads as write_byte
use Rattle.sindovaleph_typed.proofs.writing.sindovaleph_write_yes_no.Kinds as write-yes-no-kinds
use Rattle.sindovaleph_typed.proofs.writing.sindovaleph_write_yes_no.Reads as write-yes-no
use Rattle.sindovaleph_typed.proofs.writing.sindovaleph_write_u16.Kinds as write-u16-kinds
use Rattle.sindovaleph_typed.proofs.writing.sindovaleph_write_u16.Reads as write-u16
use Rattle.sindovaleph_typed.proofs.writing.sindovaleph_write_u32.Kinds as write-u32-kinds
use Rattle.sindovaleph_typed.proofs.writing.sindovaleph_write_u32.Reads as write-u32
use Rattle.sindovaleph_typed.proofs.writing.sindovaleph_write_i32.Kinds as write-i32-kinds
use Rattle.sindovaleph_typed.proofs.writing.sindovaleph_write_i32.Reads as write-i32
use Rattle.sindovaleph_typed.proofs.writing.sindovaleph_write_text.Kinds as write-text-kinds
use Rattle.sindovaleph_typed.proofs.writing.sindovaleph_write_text.Reads as write-text
use Rattle.sindovaleph_typed.proofs.writing.sindovaleph_write_node_type.Kinds as write-node-type-kinds
use Rattle.sindovaleph_typed.proofs.writing.sindovaleph_write_node_type.Reads as write-node-type
use Rattle.sindovaleph_typed.proofs.writing.sindovaleph_write_message_type.Kinds as write-message-type-kinds
use Rattle.sindovaleph_typed.proofs.writing.sindovaleph_write_message_type.Reads as write-message-type
use Rattle.sindovaleph_typed.proofs.writing.sindovaleph_write_three_bytes.Kinds as write-three-bytes-kinds
use Rattle.sindovaleph_typed.proofs.writing.sindovaleph_write_three_bytes.Reads as write-three-bytes
use Rattle.sindovaleph_typed.proofs.writing.sindovaleph_write_flag.Kinds as write-flag-kinds
use Rattle.sindovaleph_typed.proofs.writing.sindovaleph_write_flag.Reads as write-flag
use Rattle.sindovaleph_typed.proofs.writing.sindovaleph_write_addresses.Kinds as write-addresses-kinds
use Rattle.sindovaleph_typed.proofs.writing.sindovaleph_write_addresses.Reads as write-addresses
use Rattle.sindovaleph_typed.proofs.writing.sindovaleph_write_pairs.Kinds as write-pairs-kinds
use Rattle.sindovaleph_typed.proofs.writing.sindovaleph_write_pairs.Reads as write-pairs
use Rattle.sindovaleph_typed.proofs.writing.sindovaleph_write_u16s.Kinds as write-u16s-kinds
use Rattle.sindovaleph_typed.proofs.writing.sindovaleph_write_u16s.Reads as write-u16s
use Rattle.sindovaleph_typed.proofs.writing.sindovaleph_write_codes.Kinds as write-codes-kinds
use Rattle.sindovaleph_typed.proofs.writing.sindovaleph_write_codes.Reads as write-codes
use Rattle.sindovaleph_typed.specs.contracts.writing.sindovaleph_write_routes as write-routes

write_address_unique : UniqueLeft 1 write-address-kinds.ps write-address-kinds.r write-address.Post (λ κs s. s.0.now)
write_address_unique κs a x y s t p q = wrote_one p q

write_byte_unique : UniqueLeft 1 write-byte-kinds.ps write-byte-kinds.r write_byte.Post (λ κs s. s.0.now)
write_byte_unique κs a x y s t p q = wrote_one p q

write_yes_no_unique : UniqueLeft 1 write-yes-no-kinds.ps write-yes-no-kinds.r write-yes-no.Post (λ κs s. s.0.now)
write_yes_no_unique κs a x y s t p q = wrote_one p q

write_u16_unique : UniqueLeft 1 write-u16-kinds.ps write-u16-kinds.r write-u16.Post (λ κs s. s.0.now)
write_u16_unique κs a x y s t p q = wrote_one p q

write_u32_unique : UniqueLeft 1 write-u32-kinds.ps write-u32-kinds.r write-u32.Post (λ κs s. s.0.now)
write_u32_unique κs a x y s t p q = wrote_one p q

write_i32_unique : UniqueLeft 1 write-i32-kinds.ps write-i32-kinds.r write-i32.Post (λ κs s. s.0.now)
write_i32_unique κs a x y s t p q = wrote_one p q

write_text_unique : UniqueLeft 2 write-text-kinds.ps write-text-kinds.r write-text.Post (λ κs s. s.0.now)
write_text_unique κs a x y s t p q = wrote_one p q

write_node_type_unique : UniqueLeft 1 write-node-type-kinds.ps write-node-type-kinds.r write-node-type.Post (λ κs s. s.0.now)
write_node_type_unique κs a x y s t p q = wrote_one p q

write_message_type_unique : UniqueLeft 1 write-message-type-kinds.ps write-message-type-kinds.r write-message-type.Post (λ κs s. s.0.now)
write_message_type_unique κs a x y s t p q = wrote_one p q

write_three_bytes_unique : UniqueLeft 1 write-three-bytes-kinds.ps write-three-bytes-kinds.r write-three-bytes.Post (λ κs s. s.0.now)
write_three_bytes_unique κs a x y s t p q = wrote_one p q

write_flag_unique : UniqueLeft 1 write-flag-kinds.ps write-flag-kinds.r write-flag.Post (λ κs s. s.0.now)
write_flag_unique κs a x y s t p q = wrote_one p q

write_addresses_unique : UniqueLeft 2 write-addresses-kinds.ps write-addresses-kinds.r write-addresses.Post (λ κs s. s.0.now)
write_addresses_unique κs a x y s t p q = wrote_one p q

write_pairs_unique : UniqueLeft 2 write-pairs-kinds.ps write-pairs-kinds.r write-pairs.Post (λ κs s. s.0.now)
write_pairs_unique κs a x y s t p q = wrote_one p q

write_u16s_unique : UniqueLeft 2 write-u16s-kinds.ps write-u16s-kinds.r write-u16s.Post (λ κs s. s.0.now)
write_u16s_unique κs a x y s t p q = wrote_one p q

write_codes_unique : UniqueLeft 2 write-codes-kinds.ps write-codes-kinds.r write-codes.Post (λ κs s. s.0.now)
write_codes_unique κs a x y s t p q = wrote_one p q

write_routes_unique : UniqueByHand write-routes.ended (λ M 𝓤 𝓛. write-routes.clauses 𝓛) (List ℕ) (λ κs s. s.0.now)
write_routes_unique M 𝓤 𝓛 mem run κs a g x y s t = together 𝓤 (λ p q. wrote_one p q)
