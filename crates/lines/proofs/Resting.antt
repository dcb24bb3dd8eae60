-- A whole text that a pen adds part by part: what it has added so far stands in front of the rest.
-- Assumes nothing.
use mathlib.Core.Path.{◌≡◌, ap, ◌∙◌}
use Prim.Native.Nat.{ℕ}
use mathlib.Core.List.{List, [], ◌++◌, append_assoc}
use Rattle.pen.specs.declared.Pen.{Pen}
use Rattle.pen.specs.Added.{Added}
use Rattle.pen.proofs.Added.{nothing, both, renamed}

pub record Resting (old new : Pen) (whole rest : List ℕ) : Type 0 where
  pub so_far : List ℕ
  pub added : Added old new so_far
  pub all : so_far ++ rest ≡ whole

pub begins : (p : Pen) {whole rest : List ℕ} → rest ≡ whole → Resting p p whole rest
begins p e = record { so_far = []; added = nothing p; all = e }

module _ {p q r : Pen} {whole rest : List ℕ} (s : Resting p q whole rest) where
  pub goes_on : (part next : List ℕ) → Added q r part → part ++ next ≡ rest → Resting p r whole next
  goes_on part next a e =
      record {
        so_far = s.so_far ++ part;
        added = both s.added a;
        all = append_assoc s.so_far part next ∙ ap (λ (l : List ℕ). s.so_far ++ l) e ∙ s.all;
      }

  pub ends : {part : List ℕ} → Added q r part → part ≡ rest → Added p r whole
  ends a e = renamed (both s.added (renamed a e)) s.all
