-- `measure` goes over the pairs of a value: one more is measured, and at the end none is left.
-- Assumes nothing.
use mathlib.Core.Path.{◌≡◌, sym, ap, ◌∙◌}
use mathlib.Core.List.{List, foldl}
use Prim.Native.Nat.{ℕ}
use native.Mathlib.Omega.{arith}
use lib.ListN.{length, length-append}
use Rattle.rfc.specs.Routes.{Route}
use Rattle.rfc.specs.Moves.{route_out, out_rows}
use Rattle.laying.specs.Passes.{row_of, measured, gauged}
use Rattle.moves.proofs.Rows.{out_gauged, out_done}
use Rattle.moves.proofs.PairsRows.measure.Goals as goal

pub loop-pair-preserved : goal.loop-pair-preserved
loop-pair-preserved c =
    let l = c.loop-pair in
    let steps = c.in-Some.ensures.steps in
    let pair = c.in-Some.pair.now in
    let rest = c.next.new.self.rest.now in
    let eight : length pair ≡ 8 = steps.1.1 ∙ l.invariant.0 in
    let row = c.measured_out.ensures ∙ ap (λ (r : Route). row_of (route_out r)) c.moved.ensures in (
      steps.0 ∙ l.invariant.0,
      omega (arith, ap length steps.1.0, length-append pair rest, l.invariant.1),
      out_gauged pair rest eight l.pass c.measure-pass.result (c.measure-pass.ensures ∙ ap (measured l.pass) row)
          ∙ ap (λ (v : List ℕ). foldl gauged l.pass (out_rows v)) (sym steps.1.0)
          ∙ l.invariant.2,
    )

pub returns : goal.returns
returns c =
    let l = c.loop-pair in
    ap (foldl gauged l.pass) (sym (out_done l.pair-iterator.rest.now (omega (arith, c.in-None.ensures.steps.1.0, l.invariant.0)) l.invariant.1))
    ∙ l.invariant.2
