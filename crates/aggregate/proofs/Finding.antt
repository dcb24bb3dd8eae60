-- Which check refuses a code or an index, and what is answered behind the checks.
-- Assumes nothing.
use Prim.Native.Nat.{ℕ}
use mathlib.Core.Path.{◌≡◌, sym, ap, ◌∙◌}
use mathlib.Core.List.{List}
use lib.ListN.{length, get_or}
use Rattle.std.specs.Prelude.{Result, Err}
use Rattle.rfc.specs.Numbers.{Answer, refused, needs, pad_code, end_code}
use Rattle.rfc.specs.Header.{message_checks}
use Rattle.rfc.specs.Walk.{Found, join_after}
use Rattle.rfc.specs.Aggregate.{fields_of, aggregate, codes_of, option_of, overload_of, aggregate_checks}
use Rattle.rfc.proofs.Numbers.{Clear, passes, needs_no, pad-code, end-code, a_code}
use Rattle.rfc.proofs.Header.{message_read}
use Rattle.rfc.proofs.Aggregate.{find_unread, find_no_code, find_refused, find_given, entry_refused, entry_given}
use Rattle.refusal.specs.Told.{says}
use Rattle.refusal.specs.declared.Refusal.{Refusal}
use Rattle.refusal.specs.declared.Refusal.TheVariants.{NoSuchCode}
use Rattle.refusal.proofs.Told.{says_as}
use Rattle.header.specs.Header.{Stopped}
use Rattle.header.proofs.Readers.{stopped}
use Rattle.borrowed.specs.Walked.{Walked}
use Rattle.borrowed.specs.declared.answer.Step.{Step}
use Rattle.borrowed.proofs.Refusals.{says_keeps}
use Rattle.aggregate.specs.Gathered.{Finds, Enters}
use Rattle.aggregate.specs.Spanned.{Open, Whole}

-- a refusal leaves the join buffer
refusal : {message join : List ℕ} (e : Refusal) {a : Answer Found} → says e ≡ a → Walked message join join (Err e) a
refusal {join = join} e s =
    record { told = s; inside = tt; kept = sym (ap (λ (x : Answer Found). join_after x join) (sym s) ∙ says_keeps join e) }

-- what refuses option 52's answer refuses every other answer that it refuses by its number
closed : (message : List ℕ) (a : Answer Found) → ((k : ℕ) → overload_of message ≡ refused k → a ≡ refused k)
    → (e : Refusal) → says e ≡ overload_of message → says e ≡ a
unfolding overload_of
closed message a by =
    says_as (λ (o : Answer ℕ) (x : Answer Found) k len. o ≡ overload_of message → x ≡ a) (λ k h. sym (by k (sym h)))
    (λ n h. let z = (passes (aggregate_checks message) _ (needs n) (needs_no n) (sym h)).1 in cc)

-- a code
module _ (message : List ℕ) (code : ℕ) (join : List ℕ) where
  pub find_unread_so : (e : Refusal) → Stopped message e → Finds message code join join (Err e)
  find_unread_so e s =
      let r = stopped message e s in refusal e (r.1 ∙ sym (find_unread message code (length join) r.0))

  module _ (there : Whole message) where
    read : Clear (message_checks message)
    read = message_read message there.most there.least

    pub find_pad : code ≡ pad_code → Finds message code join join (Err NoSuchCode)
    find_pad z = refusal NoSuchCode (sym (find_no_code message code (length join) read (pad-code code z)))

    module _ (z : code ≡ pad_code → ⊥) where
      pub find_end : code ≡ end_code → Finds message code join join (Err NoSuchCode)
      find_end e = refusal NoSuchCode (sym (find_no_code message code (length join) read (end-code code z e)))

      pub find_closed : (code ≡ end_code → ⊥) → (e : Refusal) → says e ≡ overload_of message → Finds message code join join (Err e)
      find_closed n e s =
          refusal e (closed message _ (λ k h. find_refused message h code (length join) read (a_code code z n)) e s)

  pub find_open : {named : ℕ} {join' : List ℕ} {s : Result Step Refusal} → (code ≡ pad_code → ⊥) → (code ≡ end_code → ⊥) → Open message named
      → Walked message join join' s (option_of (fields_of message) code (length join)) → Finds message code join join' s
  find_open z n o w = rw (find_given message o code (length join) (a_code code z n)) w

-- an index
module _ (message : List ℕ) (index : ℕ) (join : List ℕ) where
  pub entry_closed : (e : Refusal) → says e ≡ overload_of message → Enters message index join join (Err e)
  entry_closed e s = refusal e (closed message _ (λ k h. entry_refused message h index (length join)) e s)

  pub entry_open : {named code : ℕ} {join' : List ℕ} {s : Result Step Refusal} → Open message named
      → code ≡ get_or (codes_of (aggregate (fields_of message))) index 0
      → Walked message join join' s (option_of (fields_of message) code (length join)) → Enters message index join join' s
  entry_open o c w = rw (entry_given message o index (length join), ← c) w
