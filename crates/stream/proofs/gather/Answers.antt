-- `gather` meets its contract: a law for each return. The frame is too large, whole already, whole now, or gathered in part.
-- Assumes nothing.
use Rattle.std.proofs.Common.{arith}
use Rattle.stream.proofs.Answers.{large, none_missing, part_put, full_put}
use Rattle.stream.proofs.gather.Goals as goal

pub returns-then-all-buffer : goal.returns-then-all-buffer
returns-then-all-buffer c = large _ _ _ _ _ (omega arith) c.shut.ensures

pub returns-then-have-all : goal.returns-then-have-all
returns-then-have-all c = none_missing _ _ _ _ _ (omega arith) (omega arith) c.hand_out.ensures

pub returns-then-have-new : goal.returns-then-have-new
returns-then-have-new c =
    full_put _ _ _ _ _ _ _ (omega arith) (omega arith) c.next_piece-new.ensures _ c.write_slice.ensures
    c.if-have-new.true c.hand_out-then-have-new.ensures

pub returns : goal.returns
returns c =
    part_put _ _ _ _ _ _ _ (omega arith) (omega arith) c.next_piece-new.ensures _ c.write_slice.ensures
    c.if-have-new.false c.more.ensures
