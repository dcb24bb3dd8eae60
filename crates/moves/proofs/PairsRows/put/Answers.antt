-- `put` goes over the pairs of a value: the bytes of one more are put, and at the end none is left.
-- Assumes nothing.
use mathlib.Core.Path.{◌≡◌, sym, ap, ◌∙◌}
use mathlib.Core.List.{List, foldl}
use Prim.Native.Nat.{ℕ}
use native.Mathlib.Omega.{arith}
use lib.ListN.{length, length-append}
use Rattle.rfc.specs.Routes.{Route, route_bytes}
use Rattle.rfc.specs.Strung.{all_bytes}
use Rattle.rfc.specs.Moves.{out_rows}
use Rattle.rfc.proofs.Strung.{bytes_none}
use Rattle.laying.specs.Passes.{put}
use Rattle.moves.proofs.Rows.{out_put, out_done}
use Rattle.moves.proofs.PairsRows.put.Goals as goal

pub loop-pair-preserved : goal.loop-pair-preserved
loop-pair-preserved c =
    let l = c.loop-pair in
    let steps = c.in-Some.ensures.steps in
    let pair = c.in-Some.pair.now in
    let rest = c.next.new.self.rest.now in
    let eight : length pair ≡ 8 = steps.1.1 ∙ l.invariant.0 in
    let turn = c.put_route-pass in (
      steps.0 ∙ l.invariant.0,
      omega (arith, ap length steps.1.0, length-append pair rest, l.invariant.1),
      out_put pair rest eight (l.pass, l.room) (turn.result, turn.new.room)
          (turn.ensures ∙ ap (λ (r : Route). foldl put (l.pass, l.room) (route_bytes r)) c.moved.ensures)
          ∙ ap (λ (v : List ℕ). foldl put (l.pass, l.room) (all_bytes (out_rows v))) (sym steps.1.0)
          ∙ l.invariant.2,
      turn.auto.room ∙ l.invariant.3,
    )

pub returns : goal.returns
returns c =
    let l = c.loop-pair in
    let none = out_done l.pair-iterator.rest.now (omega (arith, c.in-None.ensures.steps.1.0, l.invariant.0)) l.invariant.1 in
    ap (foldl put (l.pass, l.room)) (sym (ap all_bytes none ∙ bytes_none)) ∙ l.invariant.2
