-- `all` meets its contract, field by field.
-- Assumes nothing.
use mathlib.Core.Path.{◌≡◌, refl, sym, ap}
use Prim.Native.Nat.{min}
use native.Mathlib.Omega.{arith}
use Rattle.facts.proofs.Cells.{byte_at}
use Rattle.rfc.specs.Header.{Address, hlen_of}
use Rattle.rfc.proofs.Header.{given_chaddr, sname_text, file_text}
use Rattle.header.proofs.Readers.{fields, texts, number_is, chaddr_alone, ChaddrTold, magic_told}
use Rattle.header.proofs.Message.all.Goals as goal
use Rattle.header.proofs.Message.all.Goals.{in-Ok, in-Err}

pub overflow_cast-chaddr_refused : goal.overflow_cast-chaddr_refused
overflow_cast-chaddr_refused c =
    let own : min (hlen_of c.args.self.bytes.now) 16 ≡ c.in-Ok.chaddr.own = ap (λ (a : Address). a.own) (given_chaddr _ _ (sym c.in-Ok.ensures)).0 in
    omega arith

pub returns : goal.returns
returns c =
    let m = c.args.self.bytes.now in
    let address = elim c.match-chaddr.branch as (λ b. ChaddrTold m c.match-chaddr.chaddr_refused) [
      | in-Ok w ↦ rw w.chaddr_refused-is (simp (← w.in-Ok.ensures) (refl, refl, refl))
      | in-Err w ↦ rw (w.chaddr_refused-is, w.number.ensures) (chaddr_alone m (omega arith) (omega arith) w.in-Err.refusal w.in-Err.ensures)
    ] in
    simp (
      fields m (omega arith) (omega arith),
      texts m (omega arith) (omega arith),
      number_is m (omega arith) 4 4 (omega arith),
      number_is m (omega arith) 8 2 (omega arith),
      number_is m (omega arith) 10 2 (omega arith),
      number_is m (omega arith) 12 4 (omega arith),
      number_is m (omega arith) 16 4 (omega arith),
      number_is m (omega arith) 20 4 (omega arith),
      number_is m (omega arith) 24 4 (omega arith),
      sname_text,
      file_text,
      byte_at m 0 (omega arith),
      byte_at m 1 (omega arith),
      byte_at m 2 (omega arith),
      byte_at m 3 (omega arith),
      ← magic_told m (omega arith) (omega arith),
      c.u32_at.ensures,
      c.u32_at-2.ensures,
      c.u32_at-3.ensures,
      c.u32_at-4.ensures,
      c.u32_at-5.ensures,
      c.u16_at.ensures,
      c.u16_at-2.ensures,
      c.text_len-sname.ensures,
      c.text_len-file.ensures,
      address.0,
      address.1,
      address.2,
      c.wrong_magic.ensures,
    )
