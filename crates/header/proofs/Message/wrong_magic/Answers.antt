-- `wrong_magic` meets its contract: the number in the magic's place is compared with the magic's.
-- Assumes nothing.
use native.Mathlib.Omega.{arith}
use Rattle.rfc.proofs.Header.{magic_read}
use Rattle.header.proofs.Readers.{number_is}
use Rattle.header.proofs.Message.wrong_magic.Goals as goal

pub returns : goal.returns
returns c =
    let m = c.args.self.bytes.now in
    cc (magic_read m, number_is m (omega arith) 236 4 (omega arith))
