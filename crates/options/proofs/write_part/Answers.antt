-- `write_part` meets its contract: nothing is written of nothing, and else the code, the length and the value.
-- Assumes nothing.
use mathlib.Core.Path.{sym}
use mathlib.Core.List.{[], ◌∷◌}
use native.Mathlib.Omega.{arith}
use lib.Dec.{lit<}
use lib.ListN.{length}
use Rattle.std.proofs.lemmas.Bool.{eqb-true, eqb-false}
use Rattle.facts.proofs.Over.{over_nil}
use Rattle.rfc.specs.Numbers.{most_part}
use Rattle.rfc.proofs.Writing.{encode_empty, encode_once}
use Rattle.encoder.proofs.Answers.{no_room, puts, same_bytes}
use Rattle.options.proofs.write_part.Goals as goal

pub returns-then-is_empty : goal.returns-then-is_empty
returns-then-is_empty c =
    let none = eqb-true _ _ (sym c.if-is_empty.ensures) in
    same_bytes (sym (encode_empty most_part (lit< tt) _ _ none)) (puts [] _ _ (omega arith) _ (omega arith) (sym (over_nil _ _)))

pub returns-then-value-room : goal.returns-then-value-room
returns-then-value-room c =
    let some = eqb-false _ _ (sym c.if-is_empty.ensures) in
    same_bytes (sym (encode_once most_part _ _ (omega (arith, some)) c.requires.1)) (no_room _ _ _ c.requires.0 (omega arith))

pub returns : goal.returns
returns c =
    let a = c.args in
    let v = a.value.now in
    let some = eqb-false _ _ (sym c.if-is_empty.ensures) in
    same_bytes (sym (encode_once most_part a.code v (omega (arith, some)) c.requires.1))
    (puts (a.code ∷ length v ∷ v) _ _ (omega arith) _ (omega arith) c.put_part.ensures)
