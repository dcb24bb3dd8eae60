-- `put_message` meets its contract: the length, and a name and a number for each of four fields.
-- Assumes nothing.
use Rattle.pen.proofs.Added.{both}
use Rattle.rfc.specs.Header as header
use Rattle.lines.specs.Listing.{message_line}
use Rattle.lines.proofs.Telling.{field_is}
use Rattle.lines.proofs.put_message.Goals as goal

pub returns : goal.returns
unfolding message_line
returns c =
    let is-op = field_is _ header.op c.requires _ c.op.ensures _ c.unwrap.ensures in
    let is-htype = field_is _ header.htype c.requires _ c.htype.ensures _ c.unwrap-2.ensures in
    let is-hlen = field_is _ header.hlen c.requires _ c.hlen.ensures _ c.unwrap-3.ensures in
    let is-xid = field_is _ header.xid c.requires _ c.xid.ensures _ c.unwrap-4.ensures in
    rw (is-op, is-htype, is-hlen, is-xid)
    (both (both (both (both (both c.named.ensures c.named-2.ensures) c.named-3.ensures) c.named-4.ensures) c.named-5.ensures) c.word.ensures)
