-- `put_numbers` meets its contract: after so many turns the bytes of so many numbers are put.
-- Assumes nothing.
use mathlib.Core.Path.{sym, ap, ◌∙◌}
use native.Mathlib.Omega.{arith}
use native.Mathlib.Nat.{mul-suc}
use native.Mathlib.Numerals.{add-one}
use Rattle.std.proofs.Common.{◌+◌, ◌*◌, map}
use Rattle.std.proofs.lemmas.List.{length-map, get_or-map}
use Rattle.facts.specs.Over.{over}
use Rattle.facts.specs.BigEndian.{digits}
use Rattle.encoder.proofs.Turns.{put_none, put_more, put_all}
use Rattle.encoder.proofs.put_numbers.Goals as goal

pub loop-number-init : goal.loop-number-init
loop-number-init g c =
    let n = g.N.Number in
    let ns = c.args.numbers.now in
    (omega arith, put_none n.WIDTH (map n.value ns) (omega (arith, ap (λ k. n.WIDTH * k) (length-map ns n.value))))

pub loop-number-preserved : goal.loop-number-preserved
loop-number-preserved g c =
    let n = g.N.Number in
    let l = c.loop-number in
    let ns = c.args.numbers.now in
    let i = l.number-index in
    let value = get_or-map n.value ns i c.number-item.result 0 c.loop-number-test.true ∙ ap n.value (sym c.number-item.is) in (
      omega (arith, l.invariant.0, c.WIDTH-at.ensures, mul-suc n.WIDTH i, ap (λ k. n.WIDTH * k) (add-one i)),
      put_more n.WIDTH (map n.value ns) i l.invariant.1 (omega (arith, c.loop-number-test.true, length-map ns n.value))
          (c.put.ensures ∙ ap (λ at. over l.room at (digits n.WIDTH (n.value c.number-item.result))) l.invariant.0
          ∙ ap (λ v. over l.room (c.args.place + n.WIDTH * i) (digits n.WIDTH v)) (sym value)),
    )

pub returns : goal.returns
returns g c =
    let n = g.N.Number in
    let l = c.loop-number in
    let ns = c.args.numbers.now in
    put_all n.WIDTH (map n.value ns) l.number-index l.invariant.1 (omega (arith, c.loop-number-test.false, length-map ns n.value))
    ∙ ap (over c.args.room.now c.args.place) (sym (g.met.N.Number.laws.all ns))
