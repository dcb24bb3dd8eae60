-- `write_u16s` meets its contract: the bytes of a list of this kind are written.
-- Assumes nothing.
use Rattle.rfc.proofs.Values.{u16s}
use Rattle.lists.proofs.Cuts.{cut_u16s, list_holds}
use Rattle.lists.proofs.write_u16s.Goals as goal

pub write_list-requires : goal.write_list-requires
write_list-requires c = cut_u16s

pub returns : goal.returns
returns c = list_holds u16s _ _ _ _ c.write_list.ensures
