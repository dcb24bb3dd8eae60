-- `fill_all` meets its contract: the fields are filled in one after the other.
-- Assumes nothing.
use native.Mathlib.Omega.{arith}
use Rattle.rfc.proofs.Bytes.{bytes_known}
use Rattle.sindovaleph_entries.proofs.Filling.{file_there, sname_there, options_fill, file_fill, sname_fill, all_filled}
use Rattle.sindovaleph_entries.proofs.fill_all.Goals as goal

pub fill-options-requires : goal.fill-options-requires
fill-options-requires c = options_fill _ c.args.rows.now c.requires c.spans_of-at.ensures

pub slice_bounds-fill-end-2 : goal.slice_bounds-fill-end-2
slice_bounds-fill-end-2 c = file_there _ c.args.rows.now c.requires c.spans_of-at.ensures

pub fill-file-requires : goal.fill-file-requires
fill-file-requires c =
    file_fill _ c.args.rows.now c.requires c.spans_of-at.ensures (bytes_known _ (λ i. omega (arith, c.type_inv.message i))) c.fill-options.ensures

pub slice_bounds-fill-end-4 : goal.slice_bounds-fill-end-4
slice_bounds-fill-end-4 c = sname_there _ c.args.rows.now c.requires c.spans_of-at.ensures

pub fill-requires : goal.fill-requires
fill-requires c =
    sname_fill _ c.args.rows.now c.requires c.spans_of-at.ensures (bytes_known _ (λ i. omega (arith, c.type_inv.message i))) c.fill-options.ensures
    c.fill-file.ensures

pub returns : goal.returns
returns c =
    all_filled _ c.args.rows.now c.requires c.spans_of-at.ensures (bytes_known _ (λ i. omega (arith, c.type_inv.message i))) c.fill-options.ensures
    c.fill-file.ensures c.fill.ensures
