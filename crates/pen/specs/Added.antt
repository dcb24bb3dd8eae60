-- What a pen has added to its room.
-- Assumes nothing.
use Rattle.std.specs.Prelude.{◌≡◌, List, ℕ}
use Rattle.pen.specs.declared.Pen.{Pen}
use Rattle.pen.specs.Adding.{State, adds, adds_all}

-- what a pen's room holds, and the place of the next character
abbrev pub state : Pen → State
state p = (p.text.now, p.at)

-- one character more, in the same room
pub record Put (old new : Pen) (character : ℕ) : Type 0 where
  pub same : new.text.ghost_name ≡ old.text.ghost_name
  pub added : state new ≡ adds (state old) character

-- a text more
pub record Added (old new : Pen) (text : List ℕ) : Type 0 where
  pub same : new.text.ghost_name ≡ old.text.ghost_name
  pub added : state new ≡ adds_all (state old) text
