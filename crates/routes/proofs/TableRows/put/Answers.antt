-- `put` goes over a table: at its end nothing is left.
-- Assumes nothing.
use mathlib.Core.Path.{sym, ap, ◌∙◌}
use mathlib.Core.List.{foldl}
use native.Mathlib.Omega.{arith}
use lib.ListN.{drop_of_length-le}
use Rattle.routes.proofs.Rows.{one_put, all_put}
use Rattle.routes.proofs.TableRows.put.Goals as goal

pub returns : goal.returns
returns c =
    let l = c.loop-route in
    let rs = c.args.self.now.routes.now in
    ap (foldl one_put (l.pass, l.room)) (sym (drop_of_length-le rs {i = l.route-index} (omega (arith, c.loop-route-test.false))))
    ∙ l.invariant.0 ∙ all_put rs (c.args.pass, c.args.room.now)
