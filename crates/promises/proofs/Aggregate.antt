-- Ticket 1 holds, by the laws of `rfc`.
-- Assumes nothing.
use mathlib.Core.Path.{◌≡◌, refl, sym, ap, subst, ◌∙◌}
use Prim.Native.Nat.{ℕ, ◌-◌, ◌≤◌}
use native.Mathlib.Omega.{arith}
use mathlib.Core.Bool.{true, false}
use mathlib.Core.List.{List, ◌++◌}
use lib.ListN.{length, take, drop, get_or, get_or-map, get_or-eq_default, length-map}
use Rattle.facts.proofs.Distinct.{At, at_index, index_at, once_same}
use Rattle.rfc.specs.Numbers.{Answer, given, needs, no_code, Check, least_message}
use Rattle.rfc.specs.Header.{message_checks}
use Rattle.rfc.specs.Walk.{Found, stop, out, option, room_for, join_after}
use Rattle.rfc.specs.Lists.{listing}
use Rattle.rfc.specs.Portions.{Portion, Portions, cut_field, whole, portions, is_cut, parts_in, of_code, joined_value}
use Rattle.rfc.specs.Aggregate.{OptionFields, fields_of, options_read, overloads, unclear_overload, overload, field_checks, aggregate, codes_of, option_from, option_of, aggregate_checks, find_checks, find, entry, options_from, entries}
use Rattle.rfc.specs.Modes.{values_in, EndsCut, EndsWhole}
use Rattle.rfc.proofs.Numbers.{Clear, next, clears, passes, none_first, given_no, needs_no, long_enough}
use Rattle.rfc.proofs.Walk.{stop_answered, stop_keeps}
use Rattle.rfc.proofs.Listed.{listed_all, codes_once, few_codes}
use Rattle.rfc.proofs.Modes.{Agrees, both_modes}
use Rattle.rfc.proofs.OfCode.{none_of, code_given, one_in_place, no_needs, joined_fits}
use Rattle.promises.specs.Order.{follows}
use Rattle.promises.specs.Aggregate.{AggregateOrder, BothModes, ListedOnce, ListedAll, ListedIsFound, ListedAtOnce, ListedFew, OptionsSteer, ShownInPlace, JoinSuffices, Kept, AggregateKeeps}
use Rattle.promises.proofs.Refusals.{keeps}

pub aggregate_order : AggregateOrder
unfolding find entry find_checks aggregate_checks field_checks message_checks follows
aggregate_order message code index room n = (
  refl,
  refl,
  λ e. none_first (passes (find_checks message code) _ (needs n) (needs_no n) e).0,
  λ e. none_first (passes (aggregate_checks message) _ (needs n) (needs_no n) e).0,
)

clash : true ≡ false → ⊥
clash e = let n : ◌≡◌ {A = ℕ} 0 1 = cc in omega arith

pub modes_agree : BothModes
unfolding is_cut parts_in
modes_agree area at join short room = go (portions at area) (both_modes area join short room at)
  where
    go : (x : Portions) → Agrees x (listing area join)
        → (is_cut x ≡ true → EndsCut (listing area join).ending)
        × (is_cut x ≡ false
        → EndsWhole (listing area join).ending × ((code : ℕ) → joined_value (of_code code (parts_in x)) ≡ values_in code (listing area join).options))
    go cut_field a = ((λ e. a), (λ e. absurd (clash e)))
    go (whole ps) a = ((λ e. absurd (clash (sym e))), (λ e. a))

pub listed_once : ListedOnce
listed_once f i j h g e =
    once_same (codes_once (aggregate f)) (index_at _ i h) (subst (λ (c : ℕ). At c j (codes_of (aggregate f))) (sym e) (index_at _ j g))

pub all_listed : ListedAll
all_listed f code p ps e = let r = listed_all code (aggregate f) p ps e in let i = at_index r.1 in (r.0, i.0, i.1)

-- the checks of a reading, and those of a reading for a code, in which 6 stands behind 2 and 1
with_code : (message : List ℕ) (code : ℕ) → no_code code ≡ false → Clear (aggregate_checks message) → Clear (find_checks message code)
unfolding find_checks aggregate_checks message_checks
with_code message code e (next a (next b c)) = next a (next b (next e c))

pub listed_is_found : ListedIsFound
unfolding find entry
listed_is_found message index room code v n at e =
    let f : OptionFields = fields_of message in
    let q = passes (aggregate_checks message) _ (given (option code v n at)) (given_no _) e in
    let r = code_given message (get_or (codes_of (aggregate f)) index 0) room code v n at q.1 in
    clears _ (with_code message code (sym (ap no_code r.0) ∙ r.1) q.0) ∙ ap (λ (c : ℕ). option_of f c room) (sym r.0) ∙ q.1

-- a listing at once is that of a message which is read
at_once : (message : List ℕ) (os : List Found) → entries message ≡ given os
    → Clear (aggregate_checks message) × (options_from (aggregate (fields_of message)) ≡ os)
unfolding entries
at_once message os e =
    let q = passes (aggregate_checks message) _ (given os) (given_no os) e in
    let all : given (options_from (aggregate (fields_of message))) ≡ given os = q.1 in
    (q.0, cc)

pub listed_at_once : ListedAtOnce
unfolding entry options_from option_of option_from no_code
listed_at_once message os index room e =
    let ps : List Portion = aggregate (fields_of message) in
    let found : ℕ → Found = λ code. option_from code (of_code code ps) in
    let q = at_once message os e in
    let none : found 0 ≡ stop out 0 = ap (option_from 0) (none_of message 0 refl) in
    let one : entry message index room ≡ room_for room (get_or os index (stop out 0)) =
    clears _ q.0 ∙ ap (room_for room) (sym (get_or-map found (codes_of ps) index 0) ∙ (λ i. get_or (q.1 i) index (none i))) in
    (one, λ h. one ∙ ap (room_for room) (get_or-eq_default os (stop out 0) h) ∙ stop_answered room out 0)

pub listed_few : ListedFew
unfolding options_from
listed_few message os bytes e =
    let ps : List Portion = aggregate (fields_of message) in
    omega (
      arith,
      ap length (at_once message os e).1,
      length-map (codes_of ps) (λ (code : ℕ). option_from code (of_code code ps)),
      few_codes message bytes,
    )

pub options_steer : OptionsSteer
unfolding overload overloads options_read
options_steer f g e = (of overload, of (λ (h : OptionFields). unclear_overload (overloads h)))
  where
    of : {A : Type 0} (said : OptionFields → A) → said f ≡ said (record { options = g.options; file = f.file; sname = f.sname })
    of said = ap (λ (o : List ℕ). said (record { options = o; file = f.file; sname = f.sname })) e

pub shown_in_place : ShownInPlace
unfolding find
shown_in_place message code room v at e =
    let q = passes (find_checks message code) _ (given (option code v 1 at)) (given_no _) e in
    let r = one_in_place message code room code v 1 at q.1 refl in
    let p = r.1 in
    let len : length r.0.value ≡ length v = ap length r.2 in (
      at - length v,
      omega (arith, p.fits, r.3),
      omega (arith, p.within, r.3),
      (λ i. take (sym len i) (drop (sym r.3 i - sym len i) message)) ∙ p.value ∙ r.2,
    )

-- a message that is not refused is long enough
not_short : (message : List ℕ) (cs : List Check) → Clear (message_checks message ++ cs) → least_message ≤ length message
unfolding message_checks
not_short message cs (next a (next b c)) = long_enough message b

pub join_suffices : JoinSuffices
unfolding find entry find_checks aggregate_checks
join_suffices message code index room n h = (
  λ e. let q = passes (find_checks message code) _ (needs n) (needs_no n) e in none code (not_short message _ q.0) q.1,
  λ e. let q = passes (aggregate_checks message) _ (needs n) (needs_no n) e in none _ (not_short message _ q.0) q.1,
)
  where
    none : (c : ℕ) → least_message ≤ length message → option_of (fields_of message) c room ≡ needs n → ⊥
    none c g w = no_needs (fields_of message) c room n (omega (arith, joined_fits message c g)) w

kept : (a : Answer Found) (join : List ℕ) → Kept a join
kept a join = ((λ r. (keeps a join 0 r).0), (λ s at e. ap (λ (b : Answer Found). join_after b join) e ∙ stop_keeps join s at))

pub aggregate_keeps : AggregateKeeps
aggregate_keeps message join code index = (kept _ join, kept _ join)
