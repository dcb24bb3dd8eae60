-- `past_ascii` meets its contract: each block without a high byte is passed.
-- Assumes nothing.
use Rattle.std.proofs.Common.{arith, length, length-drop, drop, ◌-◌, sym, ◌∙◌, subst}
use Rattle.std.proofs.lemmas.List.{take_all}
use Rattle.text.proofs.Ascii.{one_more, last}
use Rattle.text.specs.Ascii.{Passed}
use Rattle.text.proofs.past_ascii.Goals as goal

pub loop-rest-preserved : goal.loop-rest-preserved
loop-rest-preserved c =
    let rest = c.loop-rest.rest.now in
    subst (Passed c.args.text.now) (sym (take_all (length rest - 256) (drop 256 rest) (omega (arith, length-drop 256 rest)))) (one_more _ _ c.loop-rest.invariant (sym c.any_high.ensures ∙ c.if-any_high.false))

pub returns : goal.returns
returns c = rw c.then_some.ensures (last _ _ _ c.high_rest.ensures c.loop-rest.invariant (omega arith))
