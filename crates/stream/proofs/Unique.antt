-- Any two answers that the contract of `receive` allows are equal, and so is what they leave in the buffer.
-- Assumes nothing.
use Rattle.std.proofs.Common.{◌≡◌, sym, ◌∙◌, List, ℕ}
use Rattle.facts.proofs.Unique.{UniqueLeft}
use Rattle.rfc.specs.Stream as rfc
use Rattle.refusal.proofs.Told.{told_one}
use Rattle.stream.specs.declared.Taken.{Taken}
use Rattle.stream.specs.Streamed.{Took}
use Rattle.stream.proofs.receive.Kinds as receive-kinds
use Rattle.stream.proofs.receive.Reads as receive

pub took_one : {t : rfc.Taken} {b c : List ℕ} {r q : Taken} → Took t b r → Took t c q → (r ≡ q) × (b ≡ c)
took_one u v =
    let frame = told_one _ _ (u.tells ∙ sym v.tells) in
    let used = u.used ∙ sym v.used in
    let stream = u.stands ∙ sym v.stands in
    (λ i. record { frame = frame i; used = used i; stream = stream i }, u.left ∙ sym v.left)

receive_unique : UniqueLeft 2 receive-kinds.ps receive-kinds.r receive.Post (λ κs s. s.1.0.now)
receive_unique κs a x y s t p q = took_one p q
