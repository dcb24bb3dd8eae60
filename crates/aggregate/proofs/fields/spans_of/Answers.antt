-- `spans_of` meets its contract, field by field.
-- Assumes nothing.
use Rattle.rfc.proofs.Naming.{file_named, sname_named}
use Rattle.aggregate.proofs.fields.spans_of.Goals as goal

pub returns : goal.returns
returns c =
    rw (file_named _, sname_named _)
    (λ i. record {
      options = c.options_start.ensures i;
      file = c.end_of.ensures i;
      sname = c.end_of-2.ensures i;
    })
