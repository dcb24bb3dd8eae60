-- The answers of RFC 3396's reading, check by check (`overload_of`, `find`, `entry` and `entries` of `specs/Aggregate.antt`): what `overload_of`
-- refuses the others refuse, `find` behind its own checks, and where it is given they answer.
-- Assumes nothing.
use Prim.Native.Nat.{ℕ}
use mathlib.Core.Path.{◌≡◌, refl, ap, ◌∙◌}
use native.Mathlib.Omega.{arith}
use mathlib.Core.Bool.{Bool, true, false, ◌||◌}
use mathlib.Core.List.{List, map}
use lib.ListN.{length, get_or, length-map}
use Rattle.rfc.specs.Numbers.{given, refused, no_code}
use Rattle.rfc.specs.Header.{message_checks}
use Rattle.rfc.specs.Portions.{Portion, is_cut, of_code}
use Rattle.rfc.specs.Aggregate.{OptionFields, fields_of, options_read, overloads, unclear_overload, overload, file_read, sname_read, field_checks}
use Rattle.rfc.specs.Aggregate.{aggregate, codes_of, option_from, option_of, aggregate_checks, overload_of, find_checks, find, entry}
use Rattle.rfc.specs.Aggregate.{options_from, entries}
use Rattle.rfc.proofs.Numbers.{Refuses, here, later, refuses, refused_by, Clear, done, next, clears, passes, given_no}
use Rattle.rfc.proofs.Numbers.{refuses_front, refuses_behind, refuses_later, clear_front, clear_behind, clear_both}

-- what is said of option 52
module _ (message : List ℕ) where
  abbrev f : OptionFields
  f = fields_of message

  pub not_read : {k : ℕ} → Refuses (message_checks message) k → overload_of message ≡ refused k
  unfolding overload_of aggregate_checks
  not_read r = refuses _ (refuses_front _ r)

  module _ (c : Clear (message_checks message)) where
    -- whatever option 52 is
    pub options_cut : is_cut (options_read f) ≡ true → overload_of message ≡ refused 15
    unfolding overload_of aggregate_checks field_checks
    options_cut e = refuses _ (refuses_behind c (here e))

    module _ (o : is_cut (options_read f) ≡ false) where
      pub unclear : unclear_overload (overloads f) ≡ true → overload_of message ≡ refused 16
      unfolding overload_of aggregate_checks field_checks
      unclear e = refuses _ (refuses_behind c (later o (here e)))

      module _ (u : unclear_overload (overloads f) ≡ false) where
        pub field_cut : (is_cut (file_read f) || is_cut (sname_read f)) ≡ true → overload_of message ≡ refused 15
        unfolding overload_of aggregate_checks field_checks
        field_cut e = refuses _ (refuses_behind c (later o (later u (here e))))

        pub all_read : (is_cut (file_read f) || is_cut (sname_read f)) ≡ false → overload_of message ≡ given (overload f)
        unfolding overload_of aggregate_checks field_checks
        all_read e = clears _ (clear_both c (next o (next u (next e done))))

-- a message that is refused, and one that is not
module _ (message : List ℕ) {k : ℕ} (e : overload_of message ≡ refused k) where
  by : Refuses (aggregate_checks message) k
  unfolding overload_of
  by = refused_by (aggregate_checks message) _ k e

  pub entry_refused : (index room : ℕ) → entry message index room ≡ refused k
  unfolding entry
  entry_refused index room = refuses _ by

  pub entries_refused : entries message ≡ refused k
  unfolding entries
  entries_refused = refuses _ by

  pub find_refused : (code room : ℕ) → Clear (message_checks message) → no_code code ≡ false → find message code room ≡ refused k
  unfolding find find_checks aggregate_checks
  find_refused code room c n = refuses _ (refuses_behind c (later n (refuses_later (message_checks message) c by)))

module _ (message : List ℕ) {named : ℕ} (e : overload_of message ≡ given named) where
  passed : Clear (aggregate_checks message) × (given (overload (fields_of message)) ≡ given named)
  unfolding overload_of
  passed = passes (aggregate_checks message) _ (given named) (given_no named) e

  pub named_said : overload (fields_of message) ≡ named
  named_said = cc passed.1

  pub checks_clear : Clear (message_checks message)
  unfolding aggregate_checks
  checks_clear = clear_front (message_checks message) _ passed.0

  -- no field that is read is cut
  pub none_cut : let f = fields_of message in
      (is_cut (options_read f) ≡ false) × (is_cut (file_read f) ≡ false) × (is_cut (sname_read f) ≡ false)
  unfolding aggregate_checks field_checks
  none_cut = go (clear_behind (message_checks message) passed.0)
    where
      neither : (s t : Bool) → (s || t) ≡ false → (s ≡ false) × (t ≡ false)
      neither true t e = absurd (let z : ◌≡◌ {A = ℕ} 0 1 = cc in omega arith)
      neither false t e = (refl, e)

      go : let f = fields_of message in
          Clear (field_checks f) → (is_cut (options_read f) ≡ false) × (is_cut (file_read f) ≡ false) × (is_cut (sname_read f) ≡ false)
      go (next options (next clear (next others done))) = let n = neither _ _ others in (options, n.0, n.1)

  pub entry_given : (index room : ℕ)
      → entry message index room ≡ option_of (fields_of message) (get_or (codes_of (aggregate (fields_of message))) index 0) room
  unfolding entry
  entry_given index room = clears _ passed.0

  pub entries_given : entries message ≡ given (options_from (aggregate (fields_of message)))
  unfolding entries
  entries_given = clears _ passed.0

  pub find_given : (code room : ℕ) → no_code code ≡ false → find message code room ≡ option_of (fields_of message) code room
  unfolding find find_checks aggregate_checks
  find_given code room n = clears _ (clear_both checks_clear (next n (clear_behind (message_checks message) passed.0)))

-- a message, and then a code, that `find` refuses before
module _ (message : List ℕ) (code room : ℕ) where
  pub find_unread : {k : ℕ} → Refuses (message_checks message) k → find message code room ≡ refused k
  unfolding find find_checks
  find_unread r = refuses _ (refuses_front _ r)

  pub find_no_code : Clear (message_checks message) → no_code code ≡ true → find message code room ≡ refused 6
  unfolding find find_checks
  find_no_code c n = refuses _ (refuses_behind c (here n))

-- all options are those of the codes, as many as there are
pub options_are : (ps : List Portion) → options_from ps ≡ map (λ (code : ℕ). option_from code (of_code code ps)) (codes_of ps)
unfolding options_from
options_are ps = refl

pub options_length : (ps : List Portion) → length (options_from ps) ≡ length (codes_of ps)
options_length ps = ap length (options_are ps) ∙ length-map (codes_of ps) (λ (code : ℕ). option_from code (of_code code ps))
