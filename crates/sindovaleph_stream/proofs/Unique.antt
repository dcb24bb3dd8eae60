-- Any two answers that the contract of a function allows are equal, and so is what `sindovaleph_receive` leaves in the buffer.
-- Assumes nothing.
use mathlib.Core.Path.{sym, ◌∙◌}
use Rattle.facts.proofs.Unique.{Unique, UniqueLeft}
use Rattle.sindovaleph_stream.proofs.StateFromStream.from.Kinds as state-of-kinds
use Rattle.sindovaleph_stream.proofs.StateFromStream.from.Reads as state-of
use Rattle.sindovaleph_stream.proofs.StreamFromState.from.Kinds as plain-of-kinds
use Rattle.sindovaleph_stream.proofs.StreamFromState.from.Reads as plain-of
use Rattle.sindovaleph_stream.proofs.ReceivedFromTaken.from.Kinds as received-of-kinds
use Rattle.sindovaleph_stream.proofs.ReceivedFromTaken.from.Reads as received-of
use Rattle.sindovaleph_stream.proofs.sindovaleph_receive.Kinds as receive-kinds
use Rattle.sindovaleph_stream.proofs.sindovaleph_receive.Reads as receive

state_of_unique : Unique 0 state-of-kinds.ps state-of-kinds.r state-of.Post
state_of_unique κs a x y s t p q = p ∙ sym q

plain_of_unique : Unique 0 plain-of-kinds.ps plain-of-kinds.r plain-of.Post
plain_of_unique κs a x y s t p q = p ∙ sym q

received_of_unique : Unique 0 received-of-kinds.ps received-of-kinds.r received-of.Post
received_of_unique κs a x y s t p q = p ∙ sym q

receive_unique : UniqueLeft 2 receive-kinds.ps receive-kinds.r receive.Post (λ κs s. s.1.0.now)
receive_unique κs a x y s t p q = (p.told ∙ sym q.told, p.left ∙ sym q.left)
