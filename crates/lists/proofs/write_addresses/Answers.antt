-- `write_addresses` meets its contract: the bytes of a list of this kind are written.
-- Assumes nothing.
use Rattle.rfc.proofs.Values.{addresses}
use Rattle.lists.proofs.Cuts.{cut_addresses, list_holds}
use Rattle.lists.proofs.write_addresses.Goals as goal

pub write_list-requires : goal.write_list-requires
write_list-requires c = cut_addresses

pub returns : goal.returns
returns c = list_holds addresses _ _ _ _ c.write_list.ensures
