-- `sname` meets its contract: the text field that is read is this one.
-- Assumes nothing.
use mathlib.Core.Path.{sym, ◌∙◌}
use Rattle.rfc.proofs.Header.{sname_text}
use Rattle.header.proofs.Header.sname.Goals as goal

pub returns : goal.returns
returns c = c.text_field.ensures ∙ sym (sname_text c.args.message.now)
