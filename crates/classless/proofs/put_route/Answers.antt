-- `put_route` meets its contract: its three calls put the bytes of a route, one behind the other.
-- Assumes nothing.
use mathlib.Core.Path.{sym, ap, ◌∙◌}
use Prim.Native.Nat.{ℕ}
use mathlib.Core.List.{List, foldl, foldl-append}
use lib.ListN.{take}
use Rattle.facts.specs.BigEndian.{digits}
use Rattle.rfc.proofs.Routes.{route_is}
use Rattle.laying.specs.Passes.{State, put}
use Rattle.classless.specs.Rows.{route_of}
use Rattle.classless.proofs.put_route.Goals as goal

pub returns : goal.returns
returns c =
    let n = c.significant in
    let r = c.args.route in
    let d : State = (c.args.pass, c.args.room.now) in
    let to : List ℕ = take n.result (digits 4 r.destination) in
    let by : List ℕ = digits 4 r.gateway in
    c.put_address-2.ensures
    ∙ ap (λ (e : State). foldl put e by) (c.put_address.ensures ∙ ap (λ (e : State). foldl put e to) c.put_next.ensures)
    ∙ sym (foldl-append put (put d r.width) to by)
    ∙ ap (foldl put d) (sym (route_is (route_of r) n.result n.ensures))
