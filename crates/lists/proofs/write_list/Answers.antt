-- `write_list` meets its contract: a law of a list's write for each return, in the order of the checks.
-- Assumes nothing.
use mathlib.Core.Path.{refl, sym, ◌∙◌}
use native.Mathlib.Omega.{arith}
use Rattle.std.proofs.lemmas.Result.{err_from_is_err_and}
use Rattle.rfc.proofs.Typed.{kind_13}
use Rattle.encoder.proofs.Answers.{refuses}
use Rattle.typed.proofs.Answers.{code_refused, code_none}
use Rattle.lists.proofs.Cuts.{odd_numbers, list_checked, list_many, list_few, list_within, list_7, list_8, list_ready, list_to}
use Rattle.lists.proofs.write_list.Goals as goal

pub returns-in_err-writable : goal.returns-in_err-writable
returns-in_err-writable g c =
    let e = err_from_is_err_and c.from_residual.result c.from_residual.ensures.1 in
    rw (e.1, e.2) (code_refused _ _ _ _ _ _ c.in_err-writable.ensures)

pub returns-then-odd_pairs : goal.returns-then-odd_pairs
returns-then-odd_pairs g c =
    refuses _ _ _ _ 13 refl
    (kind_13 _ _ _ _ _ (code_none _ _ _ _ c.in_ok-writable.ensures)
    (odd_numbers c.requires g.met.N.Number.laws c.args.numbers.now ∙ sym c.if-odd_pairs.ensures))

pub returns-then-numbers-width : goal.returns-then-numbers-width
returns-then-numbers-width g c =
    let laws = g.met.N.Number.laws in
    let clear = code_none _ _ _ _ c.in_ok-writable.ensures in
    list_7 (list_checked laws _ c.requires _ _ _ clear c.if-odd_pairs.ensures) (list_many laws _ c.WIDTH-width.ensures c.if-numbers-width.true)

pub overflow_sub-room : goal.overflow_sub-room
overflow_sub-room g c =
    let clear = code_none _ _ _ _ c.in_ok-writable.ensures in
    list_within (list_checked g.met.N.Number.laws c.args.numbers.now c.requires _ _ _ clear c.if-odd_pairs.ensures)

pub returns-then-size-room : goal.returns-then-size-room
returns-then-size-room g c =
    let laws = g.met.N.Number.laws in
    let clear = code_none _ _ _ _ c.in_ok-writable.ensures in
    let few = list_few laws c.args.numbers.now c.WIDTH-width.ensures _ c.if-numbers-width.false c.size_in_parts-size.ensures in
    list_8 (list_checked laws _ c.requires _ _ _ clear c.if-odd_pairs.ensures) few (omega arith)

pub put_parts-requires : goal.put_parts-requires
put_parts-requires g c =
    let laws = g.met.N.Number.laws in
    let clear = code_none _ _ _ _ c.in_ok-writable.ensures in
    let few = list_few laws c.args.numbers.now c.WIDTH-width.ensures _ c.if-numbers-width.false c.size_in_parts-size.ensures in
    let checked = list_checked laws c.args.numbers.now c.requires _ _ _ clear c.if-odd_pairs.ensures in
    list_ready checked few (omega (arith, list_within checked))

pub returns : goal.returns
returns g c =
    let laws = g.met.N.Number.laws in
    let clear = code_none _ _ _ _ c.in_ok-writable.ensures in
    let few = list_few laws c.args.numbers.now c.WIDTH-width.ensures _ c.if-numbers-width.false c.size_in_parts-size.ensures in
    let checked = list_checked laws c.args.numbers.now c.requires _ _ _ clear c.if-odd_pairs.ensures in
    list_to checked few (omega (arith, list_within checked)) c.put_parts.ensures
