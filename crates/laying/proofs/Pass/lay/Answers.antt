-- `lay` meets its contract: where the second pass begins no row is refused.
-- Assumes nothing.
use mathlib.Core.List.{foldl}
use Rattle.std.proofs.Common.{length, is_some, sym, ap, ◌∙◌}
use Rattle.rfc.proofs.Strung.{strung_given}
use Rattle.laying.specs.Passes.{turned, gauged}
use Rattle.laying.specs.declared.Pass.{Pass}
use Rattle.laying.proofs.Passes.{Going}
use Rattle.laying.proofs.Measured.{all_clear}
use Rattle.laying.proofs.Pass.lay.Goals as goal

pub put-requires : goal.put-requires
put-requires g c =
    let rows = g.R.Rows.rows c.args.rows.now in
    let n = length c.args.room.now in
    let going : Going (turned (foldl gauged c.args.self rows) n) =
    ap (λ (q : Pass). is_some q.refusal) (sym (c.turn_over-pass.ensures ∙ ap (λ (p : Pass). turned p n) c.measure.ensures))
    ∙ sym c.is_some.ensures ∙ c.if-is_some.false in
    strung_given rows (all_clear rows (g.met.R.Rows.known c.args.rows.now) c.args.self n going)
