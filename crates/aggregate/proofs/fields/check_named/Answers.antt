-- `check_named` meets its contract: each count tells whether its field is cut.
-- Assumes nothing.
use mathlib.Core.Path.{ap}
use native.Mathlib.Omega.{arith}
use Rattle.std.proofs.Common.{rules}
use Rattle.rfc.specs.Header.{file_field, sname_field}
use Rattle.rfc.specs.Aggregate.{names_file, names_sname}
use Rattle.aggregate.specs.declared.fields.Spans.{Spans}
use Rattle.aggregate.proofs.Overloaded.{named_told}
use Rattle.aggregate.proofs.Overloading.{file_cut, sname_cut, none_is_cut}
use Rattle.aggregate.proofs.fields.check_named.Goals as goal

pub returns-in_err-count : goal.returns-in_err-count
returns-in_err-count c =
    let m = c.args.message.now in
    let n = c.args.named in
    let cut = file_cut m n 0 c.none.result (named_told file_field m (names_file n) 0 c.none.result (omega (arith, c.requires.least))
    (ap (λ (s : Spans). s.file) c.spans_of-at.ensures) c.in_err-count.ensures) in
    search rules

pub returns-in_err-count-2 : goal.returns-in_err-count-2
returns-in_err-count-2 c =
    let m = c.args.message.now in
    let n = c.args.named in
    let cut = sname_cut m n 0 c.none-2.result (named_told sname_field m (names_sname n) 0 c.none-2.result (omega (arith, c.requires.least))
    (ap (λ (s : Spans). s.sname) c.spans_of-at.ensures) c.in_err-count-2.ensures) in
    search rules

pub returns : goal.returns
returns c =
    let m = c.args.message.now in
    let n = c.args.named in
    none_is_cut m n 0 c.none.result c.none-2.result
    (named_told file_field m (names_file n) 0 c.none.result (omega (arith, c.requires.least))
    (ap (λ (s : Spans). s.file) c.spans_of-at.ensures) c.in_ok-count.ensures)
    (named_told sname_field m (names_sname n) 0 c.none-2.result (omega (arith, c.requires.least))
    (ap (λ (s : Spans). s.sname) c.spans_of-at.ensures) c.in_ok-count-2.ensures)
