-- Any two answers that a contract of this crate allows are equal, and so are the rooms that it leaves.
-- Assumes nothing.
use mathlib.Core.Path.{◌≡◌, sym, ap, ◌∙◌}
use denote.RattleType.{RattleType}
use denote.Param.Laws.{Laws}
use mir.Syntax.{Dict}
use Rattle.std.specs.Prelude.{ℕ, List, Result}
use Rattle.refusal.specs.declared.Refusal.{Refusal}
use Rattle.facts.proofs.Unique.{Unique, UniqueLeft}
use Rattle.laying.specs.Passes.{State}
use Rattle.laying.specs.declared.Rows as Rows
use Rattle.laying.proofs.Pass.begin.Kinds as begin-kinds
use Rattle.laying.proofs.Pass.begin.Reads as begin
use Rattle.laying.proofs.Pass.measure.Kinds as measure-kinds
use Rattle.laying.proofs.Pass.measure.Reads as measure
use Rattle.laying.proofs.Pass.turn_over.Kinds as turn-over-kinds
use Rattle.laying.proofs.Pass.turn_over.Reads as turn-over
use Rattle.laying.proofs.Pass.answer.Kinds as answer-kinds
use Rattle.laying.proofs.Pass.answer.Reads as answer
use Rattle.laying.proofs.Pass.put_address.Kinds as put-address-kinds
use Rattle.laying.proofs.Pass.put_address.Reads as put-address
use Rattle.laying.proofs.Pass.put_next.Kinds as put-next-kinds
use Rattle.laying.proofs.Pass.put_next.Reads as put_next
use Rattle.laying.proofs.Pass.lay.Kinds as lay-kinds
use Rattle.laying.proofs.Pass.lay.Reads as lay

begin_unique : Unique 0 begin-kinds.ps begin-kinds.r begin.Post
begin_unique κs a x y s t p q = p ∙ sym q

measure_unique : Unique 0 measure-kinds.ps measure-kinds.r measure.Post
measure_unique κs a x y s t p q = p ∙ sym q

turn_over_unique : Unique 0 turn-over-kinds.ps turn-over-kinds.r turn-over.Post
turn_over_unique κs a x y s t p q = p ∙ sym q

answer_unique : Unique 0 answer-kinds.ps answer-kinds.r answer.Post
answer_unique κs a x y s t p q = p ∙ sym q

put_address_unique : UniqueLeft 1 put-address-kinds.ps put-address-kinds.r put-address.Post (λ κs s. s.1.0.now)
put_address_unique κs a x y s t p q =
    let e : ◌≡◌ {A = State} (x, s.1.0.now) (y, t.1.0.now) = p ∙ sym q in
    (ap (λ (d : State). d.0) e, ap (λ (d : State). d.1) e)

put_next_unique : UniqueLeft 1 put-next-kinds.ps put-next-kinds.r put_next.Post (λ κs s. s.1.0.now)
put_next_unique κs a x y s t p q =
    let e : ◌≡◌ {A = State} (x, s.1.0.now) (y, t.1.0.now) = p ∙ sym q in
    (ap (λ (d : State). d.0) e, ap (λ (d : State). d.1) e)

-- of rows of any type
module _ (T : RattleType) (laws : Laws T) (g : Rows.Ghosts T.Denot) (d : Dict) where
  lay_unique : UniqueLeft 3 (lay-kinds.ps T laws) (lay-kinds.r T laws) (lay.Post T laws g d) (λ κs s. s.1.0.now)
  lay_unique κs a x y s t p q =
      let e : ◌≡◌ {A = Result ℕ Refusal × List ℕ} (x, s.1.0.now) (y, t.1.0.now) = p ∙ sym q in
      (ap (λ (o : Result ℕ Refusal × List ℕ). o.0) e, ap (λ (o : Result ℕ Refusal × List ℕ). o.1) e)
