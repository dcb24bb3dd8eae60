-- `put_part` meets its contract: two stores and the numbers behind them are one write.
-- Assumes nothing.
use mathlib.Core.Path.{◌≡◌, sym, ap, ◌∙◌}
use mathlib.Core.List.{◌∷◌}
use Rattle.std.proofs.Common.{◌*◌, length}
use Rattle.facts.specs.Over.{over}
use native.Mathlib.Omega.{arith}
use Rattle.encoder.proofs.Cuts.{part_put}
use Rattle.encoder.proofs.Turns.{length_bytes}
use Rattle.lists.proofs.put_part.Goals as goal

pub returns : goal.returns
returns g c =
    let a = c.args in
    let bytes = g.N.Number.bytes a.numbers.now in
    let wide = c.WIDTH.ensures in
    let size : length bytes ≡ c.WIDTH.result * length a.numbers.now =
    length_bytes g.met.N.Number.laws a.numbers.now ∙ ap (λ w. w * length a.numbers.now) (sym wide) in
    part_put bytes _ _ _ size (omega (arith, c.requires.0, ap (λ w. w * length a.numbers.now) wide)) c.write_numbers.ensures
    ∙ ap (λ w. over a.room.now a.at (a.code ∷ w * length a.numbers.now ∷ bytes)) wide
