-- `put_address` meets its contract: the bytes that chaddr shows and whether they spill, or its refusal.
-- Assumes nothing.
use mathlib.Core.Path.{sym, ◌∙◌}
use mathlib.Core.Bool.{cond}
use mathlib.Core.List.{[]}
use Rattle.rfc.proofs.Header.{chaddr_inside}
use Rattle.borrowed.proofs.Shown.{part_there}
use Rattle.pen.specs.Added.{Added}
use Rattle.pen.proofs.Added.{nothing, both}
use Rattle.lines.specs.Words as words
use Rattle.lines.specs.Listing.{spill_text, address_text}
use Rattle.lines.proofs.Telling.{address_refused}
use Rattle.lines.proofs.put_address.Goals as goal
use Rattle.lines.proofs.put_address.Goals.{then-chaddr, else-chaddr}

pub returns-after-chaddr : goal.returns-after-chaddr
unfolding address_text spill_text
returns-after-chaddr c =
    let shows = c.part.ensures ∙ part_there _ _ _ (chaddr_inside _ _ (sym c.in-Ok.ensures)) in
    let word = elim c.if-chaddr.branch as (λ b. Added c.spaced.new.self c.if-chaddr.pen (cond c.in-Ok.chaddr.spills words.spill [])) [
      | then-chaddr w ↦ rw (w.pen-is, w.if-chaddr.true) w.word.ensures
      | else-chaddr w ↦ rw (w.pen-is, w.if-chaddr.false) (nothing _)
    ] in
    rw (← c.in-Ok.ensures, ← shows) (both c.spaced.ensures (both word c.word-in-Ok.ensures))

pub returns-in-Err : goal.returns-in-Err
returns-in-Err c =
    rw (← c.in-Err.ensures, address_refused, ← c.number.ensures) (both c.word-in-Err.ensures c.put_refused.ensures)
