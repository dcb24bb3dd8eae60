-- `join` meets its contract: field after field is joined behind the others (`proofs/InTurn.antt`).
-- Assumes nothing.
use Rattle.aggregate.proofs.Spanning.{opens}
use Rattle.aggregate.proofs.Fronts.{file_front, sname_front}
use Rattle.aggregate.proofs.InTurn.{joins-options, joins_file, joins_sname, joined_in_all}
use Rattle.aggregate.proofs.opened.Opened.join.Goals as goal

pub join_field-options-requires : goal.join_field-options-requires
join_field-options-requires c =
    let reads = opens c.args.self.message.now c.args.self.named c.args.self.opened in
    joins-options reads c.spans-at.ensures c.args.code c.args.join.now c.requires

pub slice_bounds-join_field-end : goal.slice_bounds-join_field-end
slice_bounds-join_field-end c =
    let reads = opens c.args.self.message.now c.args.self.named c.args.self.opened in (file_front reads c.spans-at.ensures).0

pub join_field-file-requires : goal.join_field-file-requires
join_field-file-requires c =
    let reads = opens c.args.self.message.now c.args.self.named c.args.self.opened in
    joins_file reads c.spans-at.ensures c.args.code c.args.join.now c.requires c.join_field-options.ensures

pub slice_bounds-join_field-end-2 : goal.slice_bounds-join_field-end-2
slice_bounds-join_field-end-2 c =
    let reads = opens c.args.self.message.now c.args.self.named c.args.self.opened in (sname_front reads c.spans-at.ensures).0

pub join_field-requires : goal.join_field-requires
join_field-requires c =
    let reads = opens c.args.self.message.now c.args.self.named c.args.self.opened in
    joins_sname reads c.spans-at.ensures c.args.code c.args.join.now c.requires c.join_field-options.ensures c.join_field-file.ensures

pub returns : goal.returns
returns c =
    let reads = opens c.args.self.message.now c.args.self.named c.args.self.opened in
    joined_in_all reads c.spans-at.ensures c.args.code c.args.join.now c.requires c.join_field-options.ensures c.join_field-file.ensures c.join_field.ensures
