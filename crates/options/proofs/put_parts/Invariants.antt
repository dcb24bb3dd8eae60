-- `put_parts` meets its contract: after each turn some whole parts are written (`Cut`), and what the iterator has left is to be.
-- Assumes nothing.
use Rattle.std.proofs.Common.{◌≡◌}
use Rattle.std.specs.Slice.Iter.{chunks_rest, chunks_size}
use Rattle.rfc.specs.Numbers.{most_part}
use Rattle.encoder.proofs.Cuts.{Cut}
use Rattle.options.proofs.put_parts.Given as goal

abbrev pub invariant-loop-part : goal.invariant-loop-part
invariant-loop-part l =
    record {
      size : chunks_size l.part-iterator ≡ most_part;
      cut : Cut 1 most_part (λ v. v) l.initial.room l.room l.value (chunks_rest l.part-iterator) l.place l.code l.at;
    }
