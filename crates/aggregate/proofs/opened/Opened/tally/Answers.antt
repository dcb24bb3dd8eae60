-- `tally` meets its contract: three counts, one behind the other (`proofs/InTurn.antt`).
-- Assumes nothing.
use mathlib.Core.Path.{sym, ◌∙◌}
use native.Mathlib.Omega.{arith}
use Rattle.aggregate.proofs.Spanning.{opens}
use Rattle.aggregate.proofs.Fronts.{options_at, file_at, sname_at, file_front, sname_front}
use Rattle.aggregate.proofs.Gathering.{counted_none, is_counted}
use Rattle.aggregate.proofs.InTurn.{counted-options, counted_file, counted_all}
use Rattle.aggregate.proofs.opened.Opened.tally.Goals as goal

pub count-requires : goal.count-requires
count-requires c =
    let reads = opens c.args.self.message.now c.args.self.named c.args.self.opened in
    omega (arith, (counted_none 0 c.none.ensures).few, reads.most)

pub unwrap-options-requires : goal.unwrap-options-requires
unwrap-options-requires c =
    let reads = opens c.args.self.message.now c.args.self.named c.args.self.opened in
    is_counted _ _ c.count.ensures (options_at reads c.spans-at.ensures)

pub slice_bounds-count-end : goal.slice_bounds-count-end
slice_bounds-count-end c =
    let reads = opens c.args.self.message.now c.args.self.named c.args.self.opened in (file_front reads c.spans-at.ensures).0

pub count-requires-2 : goal.count-requires-2
count-requires-2 c =
    let reads = opens c.args.self.message.now c.args.self.named c.args.self.opened in
    let in-options = counted-options reads c.spans-at.ensures c.args.code c.none.ensures (sym c.unwrap-options.ensures ∙ c.count.ensures) in
    let f = file_front reads c.spans-at.ensures in
    omega (arith, in-options.few, reads.most, f.0, f.1)

pub unwrap-file-requires : goal.unwrap-file-requires
unwrap-file-requires c =
    let reads = opens c.args.self.message.now c.args.self.named c.args.self.opened in
    is_counted _ _ c.count-2.ensures (file_at reads c.spans-at.ensures)

pub slice_bounds-count-end-2 : goal.slice_bounds-count-end-2
slice_bounds-count-end-2 c =
    let reads = opens c.args.self.message.now c.args.self.named c.args.self.opened in (sname_front reads c.spans-at.ensures).0

pub count-requires-3 : goal.count-requires-3
count-requires-3 c =
    let reads = opens c.args.self.message.now c.args.self.named c.args.self.opened in
    let in_file =
    counted_file reads c.spans-at.ensures c.args.code c.none.ensures (sym c.unwrap-options.ensures ∙ c.count.ensures)
    (sym c.unwrap-file.ensures ∙ c.count-2.ensures) in
    let f = file_front reads c.spans-at.ensures in
    let g = sname_front reads c.spans-at.ensures in
    omega (arith, in_file.few, reads.most, f.0, f.1, g.0, g.1)

pub unwrap-requires : goal.unwrap-requires
unwrap-requires c =
    let reads = opens c.args.self.message.now c.args.self.named c.args.self.opened in
    is_counted _ _ c.count-3.ensures (sname_at reads c.spans-at.ensures)

pub returns : goal.returns
returns c =
    let reads = opens c.args.self.message.now c.args.self.named c.args.self.opened in
    counted_all reads c.spans-at.ensures c.args.code c.none.ensures (sym c.unwrap-options.ensures ∙ c.count.ensures)
    (sym c.unwrap-file.ensures ∙ c.count-2.ensures) (sym c.unwrap.ensures ∙ c.count-3.ensures)
