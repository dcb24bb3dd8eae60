-- `scan_rows` goes over the rows of a value: one more was seen, or what the reader says of all.
-- Assumes nothing.
use mathlib.Core.Path.{◌≡◌, sym, ap, ◌∙◌, subst}
use Prim.Native.Nat.{◌+◌}
use native.Mathlib.Omega.{arith}
use Rattle.std.specs.Prelude.{Option, Some}
use Rattle.std.proofs.lemmas.Result.{err_from_is_err_and}
use Rattle.rfc.specs.Numbers.{given}
use Rattle.classless.specs.Rows.{there}
use Rattle.classless.specs.declared.Row.{Row}
use Rattle.classless.specs.declared.Scan.{Scan}
use Rattle.classless.proofs.Scans.{Seen, seen_none, seen_ends, seen_stops, seen_goes}
use Rattle.classless.proofs.scan_rows.Goals as goal
use Rattle.classless.proofs.scan_rows.Goals.{then-scan-index, else-scan-index}

pub loop-row-init : goal.loop-row-init
loop-row-init c = (omega arith, omega arith, seen_none c.args.index c.args.value.now)

pub returns-in_err-row : goal.returns-in_err-row
returns-in_err-row c =
    let l = c.loop-row in
    let e = err_from_is_err_and c.from_residual.result c.from_residual.ensures.1 in
    rw (e.1, e.2) (seen_stops c.args.index c.args.value.now l.at l.scan l.invariant.2 l.invariant.0 c.in_err-row.field-0.0 c.in_err-row.ensures)

pub loop-row-smaller : goal.loop-row-smaller
loop-row-smaller c =
    let l = c.loop-row in
    let row : given (there c.in_ok-row.field-0) ≡ given (there (Some c.in-Some.row)) = ap (λ (x : Option Row). given (there x)) c.in-Some.is in
    let next = seen_goes c.args.index c.args.value.now l.at l.scan l.invariant.2 l.invariant.0 c.in-Some.row (sym row ∙ c.in_ok-row.ensures) in
    omega (arith, next.0, next.1)

pub loop-row-preserved : goal.loop-row-preserved
loop-row-preserved c =
    let l = c.loop-row in
    let row : given (there c.in_ok-row.field-0) ≡ given (there (Some c.in-Some.row)) = ap (λ (x : Option Row). given (there x)) c.in-Some.is in
    let next = seen_goes c.args.index c.args.value.now l.at l.scan l.invariant.2 l.invariant.0 c.in-Some.row (sym row ∙ c.in_ok-row.ensures) in
    let same : c.if-scan-index.scan.count ≡ l.scan.count =
    elim c.if-scan-index.branch [
      | then-scan-index w ↦ ap (λ (x : Scan). x.count) w.scan-is
      | else-scan-index w ↦ ap (λ (x : Scan). x.count) w.scan-is
    ] in
    let P : Scan → Type 0 =
    λ x. Seen c.args.index c.args.value.now c.in-Some.row.place (record { count = x.count + 1; place = x.place }) in (
      next.1,
      omega (arith, next.0, same),
      elim c.if-scan-index.branch [
        | then-scan-index w ↦ subst P (sym w.scan-is) (next.2 w.if-scan-index.true)
        | else-scan-index w ↦ subst P (sym w.scan-is) (next.3 w.if-scan-index.false)
      ],
    )

pub returns : goal.returns
returns c =
    let l = c.loop-row in
    seen_ends c.args.index c.args.value.now l.at l.scan l.invariant.2 l.invariant.0
    (ap (λ (x : Option Row). given (there x)) (sym c.in_default.is) ∙ c.in_ok-row.ensures)
