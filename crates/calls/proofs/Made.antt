-- What two runs of writes have made is the same, where they are.
-- Assumes nothing.
use mathlib.Core.Path.{◌≡◌, ap}
use Prim.Native.Nat.{ℕ}
use mathlib.Core.List.{List}
use Rattle.rfc.specs.Numbers.{Answer, given, refused, needs}
use Rattle.rfc.specs.Lists.{Made, finished}

abbrev made_in : Made → Answer Made → Made
made_in other (given m) = m
made_in other (refused k) = other
made_in other (needs n) = other

pub made_same : {room room' : List ℕ} {at to : ℕ} → finished room at ≡ finished room' to → (room ≡ room') × (at ≡ to)
made_same {room} {at = at} e =
    let m : Made = record { room = room; place = at } in
    (ap (λ (a : Answer Made). (made_in m a).room) e, ap (λ (a : Answer Made). (made_in m a).place) e)
