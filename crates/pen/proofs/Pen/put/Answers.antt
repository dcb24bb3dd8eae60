-- `put` meets its contract: a character inside the room is written, and every one is counted.
-- Assumes nothing.
use Rattle.std.proofs.Common.{refl, ap, ◌∙◌, arith}
use Rattle.pen.specs.declared.Pen.{Pen}
use Rattle.pen.specs.Adding.{behind}
use Rattle.pen.proofs.Adding.{adds_inside, adds_outside}
use Rattle.pen.proofs.Pen.put.Goals as goal
use Rattle.pen.proofs.Pen.put.Goals.{then-self, else-self}

pub returns : goal.returns
returns c =
    elim c.if-self.branch [
      | then-self w ↦
          (let next = c.behind-self.ensures ∙ ap (λ (p : Pen). behind p.at) w.self-is in
          rw w.self-is (record { same = refl; added = adds_inside _ _ _ _ (omega arith) next }))
      | else-self w ↦
          (let next = c.behind-self.ensures ∙ ap (λ (p : Pen). behind p.at) w.self-is in
          rw w.self-is (record { same = refl; added = adds_outside _ _ _ _ (omega arith) next }))
    ]
