-- `file` meets its contract: the text field that is read is this one.
-- Assumes nothing.
use mathlib.Core.Path.{sym, ◌∙◌}
use Rattle.rfc.proofs.Header.{file_text}
use Rattle.header.proofs.Header.file.Goals as goal

pub returns : goal.returns
returns c = c.text_field.ensures ∙ sym (file_text c.args.message.now)
