-- The checks stand in their order: their numbers are computed, whatever the arguments, and the rest is by the laws of `rfc`.
-- Assumes nothing.
use mathlib.Core.Path.{refl}
use Rattle.rfc.specs.Header.{message_checks, chaddr_checks}
use Rattle.rfc.specs.Walk.{step_checks}
use Rattle.rfc.specs.Values.{read_checks}
use Rattle.rfc.specs.Writing.{write_checks, write_slice, into_room, write_bytes, close}
use Rattle.rfc.specs.Typed.{write_value, write_kind, code_checks, value_checks}
use Rattle.rfc.specs.Routes.{write_routes}
use Rattle.rfc.proofs.Walk.{needs_last}
use Rattle.rfc.proofs.Elements.{element_refused}
use Rattle.rfc.proofs.Readings.{option_refused, option_needs}
use Rattle.promises.specs.Order.{follows, OrderOfChecks, JoinComesLast, IndexComesLast, WalkComesFirst}

pub order_of_checks : OrderOfChecks
unfolding follows message_checks chaddr_checks step_checks read_checks write_checks write_slice write_bytes close into_room write_value write_kind code_checks value_checks write_routes
order_of_checks message area room value bytes place code mode typed routes = (refl, refl, refl, refl, refl, refl, refl, refl, refl)

pub join_comes_last : JoinComesLast
join_comes_last area place room n e = needs_last area place room n e

pub index_comes_last : IndexComesLast
index_comes_last reading index k e = element_refused index k reading e

pub walk_comes_first : WalkComesFirst
walk_comes_first mode answer k = (option_refused mode k answer, option_needs mode k answer)
