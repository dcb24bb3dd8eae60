-- `route_at` meets its contract: the route at the index, read again at its place.
-- Assumes nothing.
use mathlib.Core.Path.{sym, ap, ◌∙◌}
use Rattle.std.specs.Prelude.{Option, Ok, Err}
use Rattle.std.proofs.lemmas.Result.{err_from_is_err_and}
use Rattle.rfc.specs.Classless.{route_at}
use Rattle.classless.specs.Rows.{there, route_there}
use Rattle.classless.specs.declared.Row.{Row}
use Rattle.classless.proofs.Scans.{read_again}
use Rattle.classless.proofs.route_at.Goals as goal

pub returns-in_err-row : goal.returns-in_err-row
returns-in_err-row c =
    let v = c.args.value.now in
    let scan = c.in_ok-scan in
    let e = err_from_is_err_and c.from_residual-in_err-row.result c.from_residual-in_err-row.ensures.1 in
    rw (e.1, e.2)
    (read_again v scan.scan.place (route_at c.args.index v) scan.ensures.placed (Err c.in_err-row.field-0.0) c.in_err-row.ensures)

pub returns-in-Some : goal.returns-in-Some
returns-in-Some c =
    let v = c.args.value.now in
    let scan = c.in_ok-scan in
    ap (λ (o : Option Row). route_there (there o)) (sym c.in-Some.is)
    ∙ read_again v scan.scan.place (route_at c.args.index v) scan.ensures.placed (Ok c.in_ok-row.field-0) c.in_ok-row.ensures

pub returns-in-None : goal.returns-in-None
returns-in-None c =
    let v = c.args.value.now in
    let scan = c.in_ok-scan in
    ap (λ (o : Option Row). route_there (there o)) (sym c.in-None.is)
    ∙ read_again v scan.scan.place (route_at c.args.index v) scan.ensures.placed (Ok c.in_ok-row.field-0) c.in_ok-row.ensures
