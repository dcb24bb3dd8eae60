-- What is answered of a message: the number of a refusal, or how many codes there are, with their rows.
-- Assumes nothing.
use mathlib.Core.Path.{◌≡◌, sym, ap, ◌∙◌}
use Prim.Native.Nat.{ℕ}
use mathlib.Core.List.{List}
use Rattle.rfc.specs.Numbers.{Answer, refused, needs}
use Rattle.rfc.specs.Walk.{Found}
use Rattle.rfc.specs.Aggregate.{fields_of, aggregate, overload_of, aggregate_checks}
use Rattle.rfc.proofs.Numbers.{passes, needs_no}
use Rattle.rfc.proofs.Aggregate.{entries_refused, entries_given, options_length}
use Rattle.refusal.specs.Told.{says, number_of}
use Rattle.refusal.specs.declared.Refusal.{Refusal}
use Rattle.refusal.proofs.Told.{says_as}
use Rattle.aggregate.specs.Spanned.{Open}
use Rattle.sindovaleph_entries.specs.Rows.{entries_of, entries_after, ListsEntries}
use Rattle.sindovaleph_entries.specs.Filling.{FillsAll}

module _ (message rows : List ℕ) where
  numbered : (k : ℕ) → overload_of message ≡ refused k → ListsEntries message rows rows (record { refused = k; codes = 0 })
  numbered k e =
      let is = entries_refused message e in
      record { told = sym (ap entries_of is); kept = sym (ap (λ (a : Answer (List Found)). entries_after a rows) is) }

  closed : (e : Refusal) → says e ≡ overload_of message → ListsEntries message rows rows (record { refused = number_of e; codes = 0 })
  unfolding overload_of
  closed =
      says_as
      (λ (o a : Answer ℕ) k len. o ≡ overload_of message → ListsEntries message rows rows (record { refused = k; codes = 0 }))
      (λ k h. numbered k (sym h))
      (λ n h. let z = (passes (aggregate_checks message) _ (needs n) (needs_no n) (sym h)).1 in cc)

  pub lists_refused : (e : Refusal) {number : ℕ} → says e ≡ overload_of message → number ≡ number_of e
      → ListsEntries message rows rows (record { refused = number; codes = 0 })
  lists_refused e s n = rw n (closed e s)

  pub lists_given : {named codes : ℕ} {rows' : List ℕ} → Open message named → FillsAll message rows rows' codes
      → ListsEntries message rows rows' (record { refused = 0; codes = codes })
  lists_given o f =
      let is = entries_given message o in
      let many = f.told ∙ sym (options_length (aggregate (fields_of message))) in
      record {
        told = (λ i. record { refused = 0; codes = many i }) ∙ sym (ap entries_of is);
        kept = f.kept ∙ sym (ap (λ (a : Answer (List Found)). entries_after a rows) is);
      }
