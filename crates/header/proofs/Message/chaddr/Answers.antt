-- `chaddr` meets its contract, by what hlen reads.
-- Assumes nothing.
use mathlib.Core.Path.{sym}
use native.Mathlib.Omega.{arith}
use lib.ListN.{get_or}
use Rattle.rfc.proofs.Header.{spills_read}
use Rattle.header.proofs.Readers.{chaddr_cut, chaddr_shown}
use Rattle.header.proofs.Message.chaddr.Goals as goal

pub returns-then-self-end : goal.returns-then-self-end
returns-then-self-end c = sym (chaddr_cut _ (omega arith) (omega arith) (omega arith))

pub returns : goal.returns
returns c =
    let shown = chaddr_shown c.args.self.bytes.now (omega arith) (omega arith) (omega arith) in
    cc (shown, spills_read (get_or c.args.self.bytes.now 2 0))
