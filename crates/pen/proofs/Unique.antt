-- What a pen leaves by the contract of a function is decided: what its room holds, and the place of the next character.
-- Assumes nothing.
use Rattle.std.proofs.Common.{◌≡◌, sym, ◌∙◌, List, ℕ}
use denote.RattleType.{RattleType}
use denote.Param.Laws.{Laws}
use mir.Syntax.{Dict}
use contract.Lifetimes.{Lfts}
use denote.Triple.Clauses.{AtExit}
use borrow.Fn.Kinds.{ParamKind, ResultKind, Out, Dens, res_t, ended_of}
use Rattle.facts.proofs.Unique.{UniqueLeft}
use Rattle.encoder.proofs.Answers.{wrote_one}
use Rattle.pen.specs.declared.Pen.{Pen}
use Rattle.pen.specs.declared.Show as Show
use Rattle.pen.specs.Added.{state, Added}
use Rattle.pen.proofs.Pen.word.Kinds as word-kinds
use Rattle.pen.proofs.Pen.word.Reads as word
use Rattle.pen.proofs.Pen.decimal.Kinds as decimal-kinds
use Rattle.pen.proofs.Pen.decimal.Reads as decimal
use Rattle.pen.proofs.Pen.named.Kinds as named-kinds
use Rattle.pen.proofs.Pen.named.Reads as named
use Rattle.pen.proofs.Pen.spaced.Kinds as spaced-kinds
use Rattle.pen.proofs.Pen.spaced.Reads as spaced
use Rattle.pen.proofs.write.Kinds as write-kinds
use Rattle.pen.proofs.write.Reads as write

-- a function of n lifetimes, with parameters and a result of these kinds: the arguments decide what a pen is left as
abbrev pub UniqueAdded : (n : ℕ) (ps : List (ParamKind n)) (r : ResultKind n) (Post : Out n ps r)
    → ((κs : Lfts n) → AtExit (ended_of n ps r) κs → Pen) → Type 0
UniqueAdded n ps r Post left =
    (κs : Lfts n) (a : Dens κs ps) (x y : (res_t r κs).Denot) (s t : AtExit (ended_of n ps r) κs)
    → Post κs a x s → Post κs a y t → state (left κs s) ≡ state (left κs t)

-- the same text added to the same room
pub added_one : {p q r : Pen} {text : List ℕ} → Added p q text → Added p r text → state q ≡ state r
added_one u v = u.added ∙ sym v.added

word_unique : UniqueAdded 3 word-kinds.ps word-kinds.r word.Post (λ κs s. s.0.now)
word_unique κs a x y s t p q = added_one p q

decimal_unique : UniqueAdded 2 decimal-kinds.ps decimal-kinds.r decimal.Post (λ κs s. s.0.now)
decimal_unique κs a x y s t p q = added_one p q

named_unique : UniqueAdded 3 named-kinds.ps named-kinds.r named.Post (λ κs s. s.0.now)
named_unique κs a x y s t p q = added_one p q

spaced_unique : UniqueAdded 3 spaced-kinds.ps spaced-kinds.r spaced.Post (λ κs s. s.0.now)
spaced_unique κs a x y s t p q = added_one p q

-- of a text of any type
module _ (T : RattleType) (laws : Laws T) (g : Show.Ghosts T.Denot) (d : Dict) where
  write_unique : UniqueLeft 3 (write-kinds.ps T laws) (write-kinds.r T laws) (write.Post T laws g d) (λ κs s. s.0.now)
  write_unique κs a x y s t p q = wrote_one p q
