-- `put_parts` meets its contract: after each turn some whole parts are written (`Cut`), and what the iterator has left is to be.
-- Assumes nothing.
use Rattle.std.proofs.Common.{◌≡◌}
use Rattle.std.specs.Slice.Iter.{chunks_rest, chunks_size}
use Rattle.encoder.proofs.Cuts.{Cut}
use Rattle.lists.proofs.put_parts.Given as goal

abbrev pub invariant-loop-part : goal.invariant-loop-part
invariant-loop-part g l =
    let n = g.N.Number in
    record {
      size : chunks_size l.part-iterator ≡ l.most;
      cut : Cut n.WIDTH l.most n.bytes l.initial.room l.room l.numbers (chunks_rest l.part-iterator) l.place l.code l.at;
    }
