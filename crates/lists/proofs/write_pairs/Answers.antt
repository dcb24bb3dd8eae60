-- `write_pairs` meets its contract: the bytes of a list of this kind are written.
-- Assumes nothing.
use Rattle.rfc.proofs.Values.{pairs}
use Rattle.lists.proofs.Cuts.{cut_pairs, list_holds}
use Rattle.lists.proofs.write_pairs.Goals as goal

pub write_list-requires : goal.write_list-requires
write_list-requires c = cut_pairs

pub returns : goal.returns
returns c = list_holds pairs _ _ _ _ c.write_list.ensures
