-- `route_from` meets its contract: a law of the row at a place for each return.
-- Assumes nothing.
use mathlib.Core.Path.{sym, ap, ◌∙◌}
use Prim.Native.Nat.{◌+◌, ◌-◌, ◌≤◌, ◌<◌}
use lib.ListN.{length, get_or, drop}
use native.Mathlib.Omega.{arith}
use Rattle.rfc.specs.Numbers.{given, most_bytes}
use Rattle.rfc.specs.Routes.{most_width}
use Rattle.rfc.specs.Classless as read
use Rattle.rfc.proofs.Bytes.{bytes_known}
use Rattle.rfc.proofs.Classless.{row_12, from_refused, from_route, cut_10, whole_clear, whole_to, whole_route}
use Rattle.classless.proofs.route_from.Goals as goal

pub returns-then-width-gt-MOST_WIDTH : goal.returns-then-width-gt-MOST_WIDTH
returns-then-width-gt-MOST_WIDTH c =
    let v = c.args.value.now in
    let at = c.args.place in
    sym (from_refused v at (omega arith) (omega arith) 12 (row_12 (get_or v at 0) (drop (at + 1) v) (omega arith)))

pub returns-then-value-at : goal.returns-then-value-at
returns-then-value-at c =
    let v = c.args.value.now in
    let at = c.args.place in
    sym (from_refused v at (omega arith) (omega arith) 10
    (cut_10 v at (omega arith) (omega arith) c.significant-n.result (omega arith) c.significant-n.ensures (omega arith)))

pub returns : goal.returns
returns c =
    let v = c.args.value.now in
    let at = c.args.place in
    let n = c.significant-n in
    let short : length v ≤ most_bytes = omega arith in
    let within : at < length v = omega arith in
    let least : get_or v at 0 ≤ most_width = omega arith in
    let whole : n.result + 4 ≤ length v - (at + 1) = omega arith in
    let route = whole_route v at short within n.result least n.ensures whole (bytes_known v (λ i. omega (arith, c.type_inv.value i))) in
    let destination = c.masked.ensures ∙ ap (read.masked (get_or v at 0)) c.u32_at.ensures in
    let gateway = c.u32_at-2.ensures in
    (λ i. given (read.route (record { width = get_or v at 0; destination = destination i; gateway = gateway i }) (at + 1 + n.result + 4)))
    ∙ (λ i. given (read.route (sym route i) (sym (whole_to v at short within n.result least n.ensures whole) i)))
    ∙ sym (from_route v at short within (whole_clear v at short within n.result least n.ensures whole))
