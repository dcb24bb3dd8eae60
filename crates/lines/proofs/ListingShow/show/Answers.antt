-- `show` meets its contract: one line for a message that is too long or too short, and else all lines.
-- Assumes nothing.
use Rattle.pen.proofs.Added.{both, renamed}
use Rattle.lines.specs.Listing.{chaddr_line}
use Rattle.lines.proofs.Telling.{listing_whole}
use Rattle.lines.proofs.ListingShow.show.Goals as goal

pub returns : goal.returns
unfolding chaddr_line
returns c =
    renamed (both (both c.put_message.ensures (both c.word-2.ensures c.put_address.ensures)) c.put_area.ensures)
    (listing_whole _ c.if-self-gt-MOST_LISTED.false c.if-self-lt-LEAST_MESSAGE.false)
