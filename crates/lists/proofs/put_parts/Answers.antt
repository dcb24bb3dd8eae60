-- `put_parts` meets its contract: after each turn some whole parts are written (`Cut`), and the next one fits.
-- Assumes nothing.
use mathlib.Core.Path.{refl, ap, ◌∙◌}
use Rattle.std.proofs.Common.{◌+◌, ◌*◌, length}
use Rattle.std.specs.Slice.Iter.{chunks_rest}
use Rattle.encoder.proofs.Cuts.{made_numbers, cut_none, part_short, part_fits, cut_more, cut_all}
use Rattle.lists.proofs.put_parts.Goals as goal

pub loop-part-init : goal.loop-part-init
loop-part-init g c =
    let chunks = c.chunks-part-items.ensures in
    let same = c.into_iter-part-iterator.ensures.into_iter_gives in
    let made = made_numbers g.met.N.Number.laws in
    record {
      size = ap (λ i. i.size) same ∙ chunks.size;
      cut = cut_none made c.requires.some c.requires.fits_part (ap chunks_rest same ∙ chunks.rest) c.requires.fits;
    }

pub put_part-requires : goal.put_part-requires
put_part-requires g c =
    let l = c.loop-part.invariant in
    let next = c.in-Some.ensures.steps.1 in
    (part_fits l.cut _ _ l.size next, part_short l.cut _ _ l.size next)

pub loop-part-preserved : goal.loop-part-preserved
loop-part-preserved g c =
    let l = c.loop-part.invariant in
    let steps = c.in-Some.ensures.steps in
    let to = ap (λ w. c.loop-part.at + (2 + w * length c.in-Some.part.now)) c.WIDTH.ensures in
    record { size = steps.0 ∙ l.size; cut = cut_more l.cut _ _ l.size steps.1 refl to c.put_part.ensures }

pub returns : goal.returns
returns g c = cut_all c.loop-part.invariant.cut c.in-None.ensures.steps.1.0
