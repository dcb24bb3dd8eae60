-- What refusals, stops and writes leave, by the laws of `rfc`.
-- Assumes nothing.
use mathlib.Core.Path.{◌≡◌, sym, ap, ◌∙◌}
use Prim.Native.Nat.{ℕ, ◌+◌, ◌-◌, ◌≤◌}
use native.Mathlib.Omega.{arith}
use mathlib.Core.List.{List}
use lib.ListN.{length, take, drop}
use Rattle.facts.specs.Over.{over}
use Rattle.facts.proofs.Over.{length_over, before_over, behind_over, shown_over}
use Rattle.rfc.specs.Numbers.{Answer}
use Rattle.rfc.specs.Walk.{Found, step, join_after, place_after}
use Rattle.rfc.specs.Writing.{room_after}
use Rattle.rfc.proofs.Walk.{stop_keeps, refused_keeps, needs_keeps, refused_stays, needs_stays}
use Rattle.rfc.proofs.Writing.{refused_left, given_left, given_to, given_fits}
use Rattle.promises.specs.Refusals.{Refusal, by_number, by_length, WalkRefusals, WalkStops, WriteRefusals, WriteChanges}

pub keeps : (a : Answer Found) (join : List ℕ) (place : ℕ) → Refusal a → (join_after a join ≡ join) × (place_after a place ≡ place)
keeps a join place (by_number k) = (refused_keeps join k, refused_stays k place)
keeps a join place (by_length n) = (needs_keeps join n, needs_stays n place)

pub walk_refusals : WalkRefusals
walk_refusals area join place r = keeps (step area place (length join)) join place r

pub walk_stops : WalkStops
walk_stops area join place at s e = ap (λ (a : Answer Found). join_after a join) e ∙ stop_keeps join s at

pub write_refusals : WriteRefusals
write_refusals w room place k e = refused_left w room place k e

pub write_changes : WriteChanges
write_changes w room place to e =
    let bytes : List ℕ = w.bytes in
    let room' : List ℕ = room_after w room place in
    let l : room' ≡ over room place bytes = given_left w room place to e in
    let t : to ≡ place + length bytes = given_to w room place to e in
    let f : place + length bytes ≤ length room = given_fits w room place to e in
    let n : to - place ≡ length bytes = omega arith in
    record {
      length_kept = ap length l ∙ length_over room place bytes f;
      before_kept = ap (take place) l ∙ before_over room place bytes f;
      behind_kept = (λ i. drop (t i) (l i)) ∙ behind_over room place bytes f ∙ ap (λ (k : ℕ). drop k room) (sym t);
      between = (λ i. take (n i) (drop place (l i))) ∙ shown_over room place bytes f;
    }
