-- `put_parts` meets its contract: after each turn some whole parts are written (`Cut`), and the next one fits.
-- Assumes nothing.
use mathlib.Core.Path.{ap, ◌∙◌}
use native.Mathlib.Omega.{arith}
use lib.Dec.{lit<}
use Rattle.std.specs.Slice.Iter.{chunks_rest}
use Rattle.encoder.proofs.Cuts.{made_bytes, cut_none, part_short, part_fits, cut_more, cut_all}
use Rattle.options.proofs.put_parts.Goals as goal

pub loop-part-init : goal.loop-part-init
loop-part-init c =
    let chunks = c.chunks-part-items.ensures in
    let same = c.into_iter-part-iterator.ensures.into_iter_gives in
    record {
      size = ap (λ i. i.size) same ∙ chunks.size;
      cut = cut_none made_bytes (lit< tt) (omega arith) (ap chunks_rest same ∙ chunks.rest) c.requires;
    }

pub put_part-requires : goal.put_part-requires
put_part-requires c =
    let l = c.loop-part.invariant in
    let next = c.in-Some.ensures.steps.1 in
    (omega (arith, part_fits l.cut _ _ l.size next), omega (arith, part_short l.cut _ _ l.size next))

pub loop-part-preserved : goal.loop-part-preserved
loop-part-preserved c =
    let l = c.loop-part.invariant in
    let steps = c.in-Some.ensures.steps in
    record {
      size = steps.0 ∙ l.size;
      cut = cut_more l.cut _ _ l.size steps.1 (omega arith) (omega arith) c.put_part.ensures;
    }

pub returns : goal.returns
returns c = cut_all c.loop-part.invariant.cut c.in-None.ensures.steps.1.0
