-- Any two answers that the contract of an exported function allows are equal, and so are the rows that they leave.
-- Assumes nothing.
use mathlib.Core.Path.{◌≡◌, sym, ◌∙◌}
use Prim.Native.Nat.{ℕ}
use mathlib.Core.List.{List}
use Rattle.facts.proofs.Unique.{UniqueLeft}
use Rattle.sindovaleph_rows.specs.Listing.{Columns, Lists}
use Rattle.sindovaleph_rows.specs.declared.listing.Listed.{Listed}
use Rattle.sindovaleph_rows.proofs.listing.sindovaleph_list.Kinds as list-kinds
use Rattle.sindovaleph_rows.proofs.listing.sindovaleph_list.Reads as list
use Rattle.sindovaleph_rows.proofs.listing.read_list.Kinds as read-list-kinds
use Rattle.sindovaleph_rows.proofs.listing.read_list.Reads as read-list

pub lists_one : {c : Columns} {area : List ℕ} {place : ℕ} {rows r₁ r₂ : List ℕ} {a b : Listed}
    → Lists c area place rows r₁ a → Lists c area place rows r₂ b → (a ≡ b) × (r₁ ≡ r₂)
lists_one p q = (p.told ∙ sym q.told, p.kept ∙ sym q.kept)

list_unique : UniqueLeft 2 list-kinds.ps list-kinds.r list.Post (λ κs s. s.1.1.0.now)
list_unique κs a x y s t p q = lists_one p q

read_list_unique : UniqueLeft 2 read-list-kinds.ps read-list-kinds.r read-list.Post (λ κs s. s.1.1.0.now)
read_list_unique κs a x y s t p q = lists_one p q
