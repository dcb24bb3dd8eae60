-- `write_parts` meets its contract: its parts are measured, and then do not fit or are put.
-- Assumes nothing.
use mathlib.Core.Path.{◌≡◌, sym, ◌∙◌}
use Prim.Native.Nat.{ℕ}
use mathlib.Core.List.{List}
use native.Mathlib.Omega.{arith}
use lib.Dec.{lit<}
use lib.ListN.{length}
use Rattle.rfc.specs.Numbers.{most_part}
use Rattle.rfc.specs.Writing.{encode, size_in_parts}
use Rattle.rfc.proofs.Writing.{length_encode}
use Rattle.encoder.proofs.Answers.{no_room, puts}
use Rattle.options.proofs.write_parts.Goals as goal

takes : (code : ℕ) (v : List ℕ) {size : ℕ} → size ≡ size_in_parts most_part (length v) → length (encode most_part code v) ≡ size
takes code v e = length_encode most_part (lit< tt) code v ∙ sym e

pub returns-then-size-room : goal.returns-then-size-room
returns-then-size-room c = no_room _ _ _ c.requires.0 (omega (arith, takes c.args.code _ c.size_in_parts-size.ensures))

pub put_parts-requires : goal.put_parts-requires
put_parts-requires c = omega (arith, takes c.args.code _ c.size_in_parts-size.ensures)

pub returns : goal.returns
returns c =
    let size = takes c.args.code _ c.size_in_parts-size.ensures in
    puts _ _ _ (omega arith) _ (omega arith) c.put_parts.ensures
