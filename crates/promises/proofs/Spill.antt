-- What is told of the hardware address is so, by the laws of `rfc`: an address that is answered is that of hlen.
-- Assumes nothing.
use mathlib.Core.Path.{◌≡◌, refl, sym, subst, ◌∙◌}
use Prim.Native.Nat.{ℕ, ◌≤◌, ◌<◌}
use native.Mathlib.Omega.{arith}
use mathlib.Core.Bool.{true, false}
use mathlib.Core.List.{List}
use borrow.Author.Tests.{ltb-true, ltb-false}
use Rattle.rfc.specs.Header.{address, hlen_of, spills}
use Rattle.rfc.proofs.Header.{given_chaddr, spills_read, address_bytes}
use Rattle.promises.specs.Spill.{AddressTold, SpillTold}

above : (n : ℕ) → spills n ≡ true → 16 < n
above n e = ltb-true 16 n (sym (spills_read n) ∙ e)

not_above : (n : ℕ) → spills n ≡ false → n ≤ 16
not_above n e = ltb-false 16 n (sym (spills_read n) ∙ e)

told : (message : List ℕ) → AddressTold message (address (hlen_of message))
told message =
    let n = hlen_of message in
    record {
      shows = refl;
      above = above n;
      not_above = not_above n;
      bytes = address_bytes n message;
      all_own = λ e. omega (arith, not_above n e);
      full_field = λ e. omega (arith, above n e);
    }

pub spill_told : SpillTold
spill_told message x e = subst (AddressTold message) (given_chaddr message x e).0 (told message)
