-- What each return of the stream's reader says, by the laws of `rfc` for the case that it stands for.
-- Assumes nothing.
use mathlib.Core.Option.{some}
use Rattle.std.proofs.Common.{◌≡◌, refl, sym, ap, ◌∙◌, subst, ℕ, ◌+◌, ◌-◌, ◌≤◌, ◌<◌, List, length, take, arith, None, Result, Ok, Err}
use Rattle.std.proofs.Math.Seq.{length-take-le, take-length}
use Rattle.std.proofs.lemmas.Bool.{lt-ltb, le-ltb}
use native.Mathlib.Decide.{dec_le}
use Rattle.facts.specs.Over.{over}
use Rattle.facts.proofs.Over.{over_nil, length_over}
use Rattle.rfc.specs.Numbers.{least_message}
use Rattle.rfc.specs.Stream as rfc
use Rattle.rfc.specs.Writing.{write_slice, next_part}
use Rattle.rfc.proofs.Stream.{frame_short, frame_long, gather_large, gather_whole, gather_part}
use Rattle.refusal.specs.declared.Refusal.{Refusal}
use Rattle.refusal.specs.declared.Refusal.TheVariants.{SizeAboveBuffer}
use Rattle.refusal.specs.Told.{told}
use Rattle.encoder.specs.Written.{Wrote}
use Rattle.encoder.proofs.Answers.{put_over}
use Rattle.stream.specs.Streamed.{handed, taken_of, handed_over, Took}
use Rattle.stream.specs.declared.Stream.TheVariants.{Filling, Shut}
use Rattle.stream.specs.declared.Taken.{Taken}

-- what a call answers and leaves, by what the definition says in another way
same : {t t' : rfc.Taken} {buffer buffer' : List ℕ} {r : Taken} → t ≡ t' → buffer ≡ buffer' → Took t' buffer' r → Took t buffer r
same {r = r} e b w = rw (e, b) w

-- a whole frame, at the buffer's front
hands_out : (used size : ℕ) (buffer : List ℕ) → size ≤ length buffer → Took (rfc.hand_out used size buffer) buffer (handed_over size used)
unfolding rfc.hand_out
hands_out used size buffer h = record { tells = go (dec_le least_message size); used = refl; stands = refl; left = refl }
  where
    bytes : List ℕ
    bytes = take size buffer

    n : length bytes ≡ size
    n = length-take-le size buffer h

    go : Dec (least_message ≤ size) → told (handed_over size used).frame ≡ handed (some (rfc.frame bytes))
    go (yes g) = rw (le-ltb size least_message g, frame_long bytes (omega (arith, n)), n) refl
    go (no g) = rw (lt-ltb size least_message (omega arith), frame_short bytes (omega (arith, n))) refl

module _ (used size filled : ℕ) (buffer rest : List ℕ) where
  pub large : {r : Taken} → length buffer < size → r ≡ taken_of (Err SizeAboveBuffer) used Shut → Took (rfc.gather used size filled buffer rest) buffer r
  large h e = rw (gather_large used size filled buffer rest h, e) (record { tells = refl; used = refl; stands = refl; left = refl })

  pub none_missing : {r : Taken} → size ≤ length buffer → size ≤ filled → r ≡ handed_over size used
      → Took (rfc.gather used size filled buffer rest) buffer r
  none_missing {r} h g e =
      let z : size - filled ≡ 0 = omega arith in
      let u : used + 0 ≡ used = omega arith in
      same
      (gather_whole used size filled buffer rest h (omega arith)
      ∙ (λ i. rfc.hand_out (used + z i) size (over buffer filled (take (z i) rest)))
      ∙ (λ i. rfc.hand_out (u i) size (over_nil buffer filled i)))
      refl (subst (Took (rfc.hand_out used size buffer) buffer) (sym e) (hands_out used size buffer h))

  -- as much of the rest as the frame takes was put in the buffer
  module _ (new : ℕ) (buffer' : List ℕ) (h : size ≤ length buffer) (missing : filled < size) (taken : new ≡ next_part (size - filled) (length rest))
      (w : Result ℕ Refusal) (p : Wrote (write_slice (take new rest) buffer filled) buffer buffer' filled w) where
    pub part_put : {r : Taken} → (filled + new ≡ size → ⊥) → r ≡ taken_of (Ok None) (used + new) (Filling size (filled + new))
        → Took (rfc.gather used size filled buffer rest) buffer' r
    part_put {r} g e =
        let m : new ≡ length rest = omega arith in
        let all : take new rest ≡ rest = ap (λ (m : ℕ). take m rest) m ∙ take-length rest in
        let done = put_over _ buffer buffer' filled w (omega (arith, ap length all)) p ∙ ap (over buffer filled) all in
        same (gather_part used size filled buffer rest h (omega arith)) done (rw (e, m) (record { tells = refl; used = refl; stands = refl; left = refl }))

    pub full_put : {r : Taken} → filled + new ≡ size → r ≡ handed_over size (used + new) → Took (rfc.gather used size filled buffer rest) buffer' r
    full_put {r} g e =
        let m : new ≡ size - filled = omega arith in
        let put : List ℕ = take new rest in
        let l : length put ≡ new = length-take-le new rest (omega arith) in
        let held : length (over buffer filled put) ≡ length buffer = length_over buffer filled put (omega (arith, l)) in
        same
        (gather_whole used size filled buffer rest h (omega arith)
        ∙ (λ i. rfc.hand_out (used + sym m i) size (over buffer filled (take (sym m i) rest))))
        (put_over _ buffer buffer' filled w (omega (arith, l)) p)
        (subst (Took (rfc.hand_out (used + new) size (over buffer filled put)) (over buffer filled put)) (sym e)
        (hands_out (used + new) size (over buffer filled put) (omega (arith, held))))
