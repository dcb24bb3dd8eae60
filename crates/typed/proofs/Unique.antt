-- Any two answers that a contract of this crate allows are equal, and so are the rooms that a writer leaves.
-- Assumes nothing.
use mathlib.Core.Path.{◌≡◌, sym, ap, ◌∙◌}
use Prim.Native.Nat.{ℕ}
use Rattle.std.specs.Prelude.{Result, Ok, Err}
use Rattle.facts.proofs.Unique.{Unique, UniqueLeft}
use Rattle.refusal.specs.declared.Refusal.{Refusal}
use Rattle.refusal.proofs.Told.{told_one, says_given}
use Rattle.kinds.specs.declared.Kind.{Kind}
use Rattle.kinds.proofs.Numbers.{number_one}
use Rattle.encoder.proofs.Answers.{wrote_one}
use Rattle.typed.specs.Writes.{kind_told}
use Rattle.typed.proofs.checks.kind_to_write.Kinds as kind-to-write-kinds
use Rattle.typed.proofs.checks.kind_to_write.Reads as kind-to-write
use Rattle.typed.proofs.checks.refusal.Kinds as refusal-kinds
use Rattle.typed.proofs.checks.refusal.Reads as refusal
use Rattle.typed.proofs.checks.writable.Kinds as writable-kinds
use Rattle.typed.proofs.checks.writable.Reads as writable
use Rattle.typed.proofs.write_address.Kinds as write-address-kinds
use Rattle.typed.proofs.write_address.Reads as write-address
use Rattle.typed.proofs.write_byte.Kinds as write-byte-kinds
use Rattle.typed.proofs.write_byte.Reads as write_byte
use Rattle.typed.proofs.write_yes_no.Kinds as write-yes-no-kinds
use Rattle.typed.proofs.write_yes_no.Reads as write-yes-no
use Rattle.typed.proofs.write_u16.Kinds as write-u16-kinds
use Rattle.typed.proofs.write_u16.Reads as write-u16
use Rattle.typed.proofs.write_u32.Kinds as write-u32-kinds
use Rattle.typed.proofs.write_u32.Reads as write-u32
use Rattle.typed.proofs.write_i32.Kinds as write-i32-kinds
use Rattle.typed.proofs.write_i32.Reads as write-i32
use Rattle.typed.proofs.write_text.Kinds as write-text-kinds
use Rattle.typed.proofs.write_text.Reads as write-text
use Rattle.typed.proofs.write_node_type.Kinds as write-node-type-kinds
use Rattle.typed.proofs.write_node_type.Reads as write-node-type
use Rattle.typed.proofs.write_message_type.Kinds as write-message-type-kinds
use Rattle.typed.proofs.write_message_type.Reads as write-message-type
use Rattle.typed.proofs.write_three_bytes.Kinds as write-three-bytes-kinds
use Rattle.typed.proofs.write_three_bytes.Reads as write-three-bytes
use Rattle.typed.proofs.write_flag.Kinds as write-flag-kinds
use Rattle.typed.proofs.write_flag.Reads as write-flag
use Rattle.typed.proofs.write_codes.Kinds as write-codes-kinds
use Rattle.typed.proofs.write_codes.Reads as write-codes

-- two answers of a kind that tell the same are the same
kind_one : (r q : Result Kind Refusal) → kind_told r ≡ kind_told q → r ≡ q
kind_one (Ok a) (Ok b) e = ap Ok (number_one a b cc)
kind_one (Ok a) (Err f) e = absurd (says_given _ f (sym e))
kind_one (Err f) (Ok b) e = absurd (says_given _ f e)
kind_one (Err f) (Err g) e = let z : Err f ≡ Err g = told_one {A = ℕ} (Err f) (Err g) e in let y : f ≡ g = cc in ap Err y

kind_to_write_unique : Unique 1 kind-to-write-kinds.ps kind-to-write-kinds.r kind-to-write.Post
kind_to_write_unique κs a x y s t p q = kind_one x y (p ∙ sym q)

writable_unique : Unique 1 writable-kinds.ps writable-kinds.r writable.Post
writable_unique κs a x y s t p q = told_one x y (p ∙ sym q)

refusal_unique : Unique 1 refusal-kinds.ps refusal-kinds.r refusal.Post
refusal_unique κs a x y s t p q = p ∙ sym q

write_address_unique : UniqueLeft 1 write-address-kinds.ps write-address-kinds.r write-address.Post (λ κs s. s.0.now)
write_address_unique κs a x y s t p q = wrote_one p q

write_byte_unique : UniqueLeft 1 write-byte-kinds.ps write-byte-kinds.r write_byte.Post (λ κs s. s.0.now)
write_byte_unique κs a x y s t p q = wrote_one p q

write_yes_no_unique : UniqueLeft 1 write-yes-no-kinds.ps write-yes-no-kinds.r write-yes-no.Post (λ κs s. s.0.now)
write_yes_no_unique κs a x y s t p q = wrote_one p q

write_u16_unique : UniqueLeft 1 write-u16-kinds.ps write-u16-kinds.r write-u16.Post (λ κs s. s.0.now)
write_u16_unique κs a x y s t p q = wrote_one p q

write_u32_unique : UniqueLeft 1 write-u32-kinds.ps write-u32-kinds.r write-u32.Post (λ κs s. s.0.now)
write_u32_unique κs a x y s t p q = wrote_one p q

write_i32_unique : UniqueLeft 1 write-i32-kinds.ps write-i32-kinds.r write-i32.Post (λ κs s. s.0.now)
write_i32_unique κs a x y s t p q = wrote_one p q

write_text_unique : UniqueLeft 2 write-text-kinds.ps write-text-kinds.r write-text.Post (λ κs s. s.0.now)
write_text_unique κs a x y s t p q = wrote_one p q

write_node_type_unique : UniqueLeft 1 write-node-type-kinds.ps write-node-type-kinds.r write-node-type.Post (λ κs s. s.0.now)
write_node_type_unique κs a x y s t p q = wrote_one p q

write_message_type_unique : UniqueLeft 1 write-message-type-kinds.ps write-message-type-kinds.r write-message-type.Post (λ κs s. s.0.now)
write_message_type_unique κs a x y s t p q = wrote_one p q

write_three_bytes_unique : UniqueLeft 1 write-three-bytes-kinds.ps write-three-bytes-kinds.r write-three-bytes.Post (λ κs s. s.0.now)
write_three_bytes_unique κs a x y s t p q = wrote_one p q

write_flag_unique : UniqueLeft 1 write-flag-kinds.ps write-flag-kinds.r write-flag.Post (λ κs s. s.0.now)
write_flag_unique κs a x y s t p q = wrote_one p q

write_codes_unique : UniqueLeft 2 write-codes-kinds.ps write-codes-kinds.r write-codes.Post (λ κs s. s.0.now)
write_codes_unique κs a x y s t p q = wrote_one p q
