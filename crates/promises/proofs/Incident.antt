-- The message of the incident: both sides are computed.
-- Assumes nothing.
use mathlib.Core.Path.{refl}
use Rattle.rfc.specs.Numbers.{too_long, too_short, past_end, checked}
use Rattle.rfc.specs.Header.{message_checks, field, hlen_of, spills, chaddr_cut, chaddr_checks, chaddr, until_zero, text_field, sname, file, magic_right, area}
use Rattle.rfc.specs.Walk.{extend, further_in, further, joined, behind, walk, room_for, step_checks, step}
use Rattle.rfc.specs.Lists.{onward, list_in, listing}
use Rattle.promises.specs.Incident.{Incident, LongerShows, AddressBounds}

pub the_incident : Incident
unfolding too_long too_short past_end checked message_checks field hlen_of spills chaddr_cut chaddr_checks chaddr until_zero text_field sname file magic_right area extend further_in further joined behind walk room_for step_checks step onward list_in listing
the_incident = (refl, refl, refl, refl, refl, refl, refl)

pub longer_shows : LongerShows
unfolding too_long too_short checked message_checks hlen_of spills chaddr_cut chaddr_checks chaddr
longer_shows = (refl, refl, refl)

pub address_bounds : AddressBounds
unfolding too_long too_short checked message_checks hlen_of spills chaddr_cut chaddr_checks chaddr
address_bounds = (refl, refl, refl, refl, refl)
