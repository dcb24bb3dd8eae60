-- `sindovaleph_step` meets its contract: what the first look tells, or the answer of the long way.
-- Assumes nothing.
use Rattle.borrowed.proofs.FirstLook.{steps_alone, steps_end}
use Rattle.crossing.proofs.Carries.{step_crosses}
use Rattle.sindovaleph.proofs.sindovaleph_step.Goals as goal

pub returns-in-Alone : goal.returns-in-Alone
returns-in-Alone c = step_crosses (steps_alone _ _ _ _ c.in-Alone.ensures) c.from.ensures

pub returns-in-Ends : goal.returns-in-Ends
returns-in-Ends c =
    let end = c.stop_number.ensures in
    step_crosses (steps_end _ _ _ _ c.in-Ends.ensures)
    (λ i. record { refused = 0; stop = end i; code = 0; parts = 0; len = 0; place = c.in-Ends.to })
