-- `area` meets its contract, by the magic.
-- Assumes nothing.
use mathlib.Core.Path.{sym, ◌∙◌}
use native.Mathlib.Omega.{arith}
use borrow.Author.Tests.{not-true, not-false}
use Rattle.rfc.proofs.Header.{area_wrong, area_given}
use Rattle.header.proofs.Readers.{clear}
use Rattle.header.proofs.Message.area.Goals as goal

pub returns-then-wrong_magic : goal.returns-then-wrong_magic
returns-then-wrong_magic c =
    sym (area_wrong _ (clear _ (omega arith) (omega arith)) (not-true _ (sym c.wrong_magic.ensures ∙ c.if-wrong_magic.true)))

pub returns : goal.returns
returns c =
    sym (area_given _ (clear _ (omega arith) (omega arith)) (not-false _ (sym c.wrong_magic.ensures ∙ c.if-wrong_magic.false)))
