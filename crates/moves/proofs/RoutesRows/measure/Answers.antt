-- `measure` goes over the rows of a value: one more is measured, or they end.
-- Assumes nothing.
use mathlib.Core.Path.{sym, ap, ◌∙◌}
use mathlib.Core.List.{foldl}
use native.Mathlib.Omega.{arith}
use lib.ListN.{drop}
use Rattle.std.specs.Prelude.{Option}
use Rattle.rfc.specs.Numbers.{given}
use Rattle.rfc.specs.Moves.{back_rows}
use Rattle.laying.specs.Passes.{measured, gauged}
use Rattle.laying.proofs.Measured.{none_gauged}
use Rattle.classless.specs.Rows.{there}
use Rattle.classless.specs.declared.Row.{Row}
use Rattle.moves.proofs.Rows.{back_goes, back_ends, back_stops}
use Rattle.moves.proofs.RoutesRows.measure.Goals as goal

pub loop-row-smaller : goal.loop-row-smaller
loop-row-smaller c =
    let l = c.loop-row in
    let row = c.in-Ok-Some in
    let next = back_goes c.args.self.now.value.now l.at c.args.self.now.short l.invariant.0 row.row row.field-0-is row.ensures in
    omega (arith, next.far.0, next.far.1)

pub loop-row-preserved : goal.loop-row-preserved
loop-row-preserved c =
    let l = c.loop-row in
    let row = c.in-Ok-Some in
    let next = back_goes c.args.self.now.value.now l.at c.args.self.now.short l.invariant.0 row.row row.field-0-is row.ensures in (
      next.far.1,
      next.measures l.pass c.measure-pass.result (c.measure-pass.ensures ∙ ap (measured l.pass) c.measured_back.ensures) ∙ l.invariant.1,
    )

pub returns-then-is_some : goal.returns-then-is_some
returns-then-is_some c =
    let l = c.loop-row in
    let row = c.in-Ok-Some in
    let next = back_goes c.args.self.now.value.now l.at c.args.self.now.short l.invariant.0 row.row row.field-0-is row.ensures in
    sym (none_gauged (back_rows (drop row.row.place c.args.self.now.value.now)) c.measure-pass.result (sym c.is_some.ensures ∙ c.if-is_some.true))
    ∙ next.measures l.pass c.measure-pass.result (c.measure-pass.ensures ∙ ap (measured l.pass) c.measured_back.ensures) ∙ l.invariant.1

pub returns-in-Ok-None : goal.returns-in-Ok-None
returns-in-Ok-None c =
    let l = c.loop-row in
    let none = back_ends c.args.self.now.value.now l.at c.args.self.now.short l.invariant.0
    (ap (λ (x : Option Row). given (there x)) (sym c.in-Ok-None.field-0-is) ∙ c.in-Ok-None.ensures) in
    ap (foldl gauged l.pass) (sym none) ∙ l.invariant.1

pub returns-in-Err : goal.returns-in-Err
returns-in-Err c =
    let l = c.loop-row in
    back_stops c.args.self.now.value.now l.at c.args.self.now.short l.invariant.0 c.in-Err.refusal c.in-Err.ensures
    l.pass c.measure.result c.measure.ensures ∙ l.invariant.1
