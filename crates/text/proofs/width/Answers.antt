-- `width` meets its contract: a form of the grammar for each test of the first byte.
-- Assumes nothing.
use Rattle.std.proofs.Common.{arith}
use Rattle.rfc.proofs.Text.{lead_00_7f, lead_80_c1, lead_c2_df, lead_e0, lead_ed, lead_e1_ef, begun}
use Rattle.text.proofs.Widths.{none_there, one_there}
use Rattle.text.proofs.width.Goals as goal

pub returns-then-first-lt128 : goal.returns-then-first-lt128
returns-then-first-lt128 c = one_there (begun (omega arith) (lead_00_7f _ (omega arith)))

pub returns-then-first-lt194 : goal.returns-then-first-lt194
returns-then-first-lt194 c = none_there _ (omega arith) (lead_80_c1 _ (omega arith) (omega arith))

pub two_bytes-requires : goal.two_bytes-requires
two_bytes-requires c = record { there = omega arith; leads = lead_c2_df _ (omega arith) (omega arith) }

pub three_bytes-requires : goal.three_bytes-requires
three_bytes-requires c = record { there = omega arith; leads = lead_e0 _ (omega arith) }

pub three_bytes-requires-then-first-2 : goal.three_bytes-requires-then-first-2
three_bytes-requires-then-first-2 c = record { there = omega arith; leads = lead_ed _ (omega arith) }

pub three_bytes-requires-then-first-lt240 : goal.three_bytes-requires-then-first-lt240
three_bytes-requires-then-first-lt240 c =
    record { there = omega arith; leads = lead_e1_ef _ (omega arith) (omega arith) (omega arith) }
