-- `code_at` meets its contract: the marks say what was seen, field after field (`proofs/InTurn.antt`).
-- Assumes nothing.
use Rattle.rfc.proofs.Bytes.{bytes_known}
use Rattle.aggregate.proofs.Spanning.{opens}
use Rattle.aggregate.proofs.Fronts.{options_at, file_front, sname_front}
use Rattle.aggregate.proofs.Marking.{sofar_none, sofar_sees}
use Rattle.aggregate.proofs.InTurn.{sees_file, sees_sname, seen_all}
use Rattle.aggregate.proofs.opened.Opened.code_at.Goals as goal

pub see-options-requires : goal.see-options-requires
see-options-requires c =
    let message = c.args.self.message.now in
    let reads = opens message c.args.self.named c.args.self.opened in
    sofar_sees c.spans-at.result.options message (sofar_none c.args.index) (options_at reads c.spans-at.ensures) reads.most

pub slice_bounds-see-end-2 : goal.slice_bounds-see-end-2
slice_bounds-see-end-2 c =
    let reads = opens c.args.self.message.now c.args.self.named c.args.self.opened in (file_front reads c.spans-at.ensures).0

pub see-file-requires : goal.see-file-requires
see-file-requires c =
    let message = c.args.self.message.now in
    let reads = opens message c.args.self.named c.args.self.opened in
    sees_file reads c.spans-at.ensures (bytes_known message c.args.self.each) c.args.index c.see-options.ensures

pub slice_bounds-see-end-4 : goal.slice_bounds-see-end-4
slice_bounds-see-end-4 c =
    let reads = opens c.args.self.message.now c.args.self.named c.args.self.opened in (sname_front reads c.spans-at.ensures).0

pub see-sname-requires : goal.see-sname-requires
see-sname-requires c =
    let message = c.args.self.message.now in
    let reads = opens message c.args.self.named c.args.self.opened in
    sees_sname reads c.spans-at.ensures (bytes_known message c.args.self.each) c.args.index c.see-options.ensures c.see-file.ensures

pub returns : goal.returns
returns c =
    let message = c.args.self.message.now in
    let reads = opens message c.args.self.named c.args.self.opened in
    seen_all reads c.spans-at.ensures (bytes_known message c.args.self.each) c.args.index c.see-options.ensures c.see-file.ensures c.see-sname.ensures
