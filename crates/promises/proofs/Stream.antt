-- Ticket 5's promises hold, by the laws of `rfc`.
-- Assumes nothing.
use mathlib.Core.Path.{sym, ap, ◌∙◌, subst}
use mathlib.Core.List.{flatten}
use Rattle.facts.specs.Each.{Each}
use Rattle.rfc.specs.Stream.{Yield, frames}
use Rattle.rfc.proofs.Stream.{receive_leaves, receive_some, receive_shut, known_size, ended_size, read_size}
use Rattle.rfc.proofs.Cuts as cuts
use Rattle.rfc.proofs.Frames as uncut
use Rattle.promises.specs.Stream.{AsUncut, CutAnywhere, CallsLeave, Handed, message, short, large, HandedOut, StaysRefused, SizeComesFirst, SentComesOut}

pub as_uncut : AsUncut
as_uncut buffer chunks = uncut.as_uncut buffer chunks

pub cut_anywhere : CutAnywhere
cut_anywhere s buffer these those fits same = cuts.cut_anywhere s buffer these those fits same

pub calls_leave : CallsLeave
calls_leave s buffer chunk =
    let l = receive_leaves s buffer chunk in
    record {
      fits = l.fits;
      kept = l.kept;
      most = l.all_there;
      least = receive_some s buffer chunk;
      front = l.front;
    }

pub handed_out : HandedOut
handed_out buffer chunks b =
    subst (λ (y : Yield). Each Handed y.handed) (sym (uncut.as_uncut buffer chunks))
    (uncut.frames_are Handed message short large buffer (flatten chunks) b)

pub stays_refused : StaysRefused
stays_refused s buffer chunk = ((receive_leaves s buffer chunk).refuses, receive_shut buffer chunk)

pub size_comes_first : SizeComesFirst
size_comes_first buffer rest size filled high low = (known_size buffer rest size filled, ended_size buffer rest high low, read_size buffer rest high low)

pub sent_comes_out : SentComesOut
sent_comes_out buffer messages chunks s e =
    let u = uncut.as_uncut buffer chunks ∙ ap (frames buffer) e in
    let f = uncut.sent_frames buffer messages s in
    (ap (λ (y : Yield). y.handed) u ∙ f.0, ap (λ (y : Yield). y.stands) u ∙ f.1)
