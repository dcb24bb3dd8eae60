-- A text that is measured where there is no room for it: where it does not fit, its write is refused by 8, and where it does, it is written.
-- Assumes nothing.
use Rattle.std.proofs.Common.{◌≡◌, refl, sym, ap, ◌∙◌, ℕ, ◌+◌, ◌-◌, ◌≤◌, ◌<◌, List, length, arith, Ok, Err}
use Rattle.rfc.specs.Numbers.{given, most_bytes}
use Rattle.rfc.specs.Writing.{into_room}
use Rattle.rfc.proofs.Writing.{into_8, into_given, into_left}
use Rattle.refusal.specs.declared.Refusal.TheVariants.{NoRoom}
use Rattle.encoder.specs.Written.{Wrote}
use Rattle.encoder.proofs.Answers.{refuses, writes}
use Rattle.pen.specs.Adding.{State, adds_all}
use Rattle.pen.proofs.Adding.{fits, counts, counts_most}

module _ (text room nowhere nowhere' : List ℕ) (place size : ℕ) (short : length room ≤ most_bytes) (within : place ≤ length room)
    (measured : (nowhere', size) ≡ adds_all (nowhere, 0) text) where
  told : (adds_all (nowhere, 0) text).1 ≡ size
  told = ap (λ (s : State). s.1) (sym measured)

  pub too_long : length room - place < size → Wrote (into_room text room place) room room place (Err NoRoom)
  too_long h = refuses _ _ _ NoRoom 8 refl (into_8 _ _ _ short within (omega (arith, counts_most _ _ _ told)))

  pub not_too_long : {room' : List ℕ} {to : ℕ} → size ≤ length room - place → (room', to) ≡ adds_all (room, place) text
      → Wrote (into_room text room place) room room' place (Ok to)
  not_too_long h added =
      let inside : place + length text ≤ length room = omega (arith, counts _ _ text told (omega arith)) in
      let done = added ∙ fits _ _ text short inside in
      writes _ _ _ _ _
      (into_given text _ _ short within inside ∙ ap (λ (s : State). given s.1) (sym done))
      (into_left text _ _ short within inside ∙ ap (λ (s : State). s.0) (sym done))
