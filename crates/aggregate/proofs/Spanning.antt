-- What a message that is read has in each of its fields: whole parts, which together are all of them.
-- Assumes nothing.
use Prim.Native.Nat.{ℕ, ◌≤◌}
use mathlib.Core.Path.{◌≡◌, refl, sym, ap, ◌∙◌}
use native.Mathlib.Omega.{arith}
use mathlib.Core.Bool.{Bool, true, false, cond}
use mathlib.Core.List.{List, [], ◌++◌}
use lib.ListN.{length, take, drop}
use lib.Seq.{drop-length}
use Rattle.rfc.specs.Numbers.{least_message, most_bytes}
use Rattle.rfc.specs.Header.{file_field, sname_field, message_checks, magic_right, area}
use Rattle.rfc.specs.Portions.{Portion, whole, portions, parts_in}
use Rattle.rfc.specs.Aggregate.{fields_of, options_read, overload, names_file, names_sname, file_read, sname_read, aggregate}
use Rattle.rfc.proofs.Numbers.{Clear}
use Rattle.rfc.proofs.Header.{header_whole, header_most, area_wrong, area_given}
use Rattle.rfc.proofs.Portions.{no_parts, uncut}
use Rattle.rfc.proofs.Overload.{options_right, options_wrong, file-read, sname-read, named_read, aggregate_is}
use Rattle.rfc.proofs.Aggregate.{named_said, checks_clear, none_cut}
use Rattle.aggregate.specs.Spanned.{options_start, spans_of, Open}

pub at_most : (named : Bool) (end start : ℕ) → start ≤ end → cond named end start ≤ end
at_most true end start h = omega arith
at_most false end start h = h

-- the options begin behind the magic, or at the message's end
module _ (message : List ℕ) (c : Clear (message_checks message)) where
  abbrev start : ℕ
  start = options_start message (area message)

  pub options-read : portions start (drop start message) ≡ options_read (fields_of message)
  options-read = go (magic_right message) refl
    where
      go : (t : Bool) → magic_right message ≡ t → portions start (drop start message) ≡ options_read (fields_of message)
      go true e = rw (area_given message c e) (sym (options_right message e))
      go false e =
          let none : portions (length message) (drop (length message) message) ≡ whole [] =
          ap (portions (length message)) (drop-length message) ∙ no_parts (length message) in
          rw (area_wrong message c e) (none ∙ sym (options_wrong message e))

pub record Reads (message : List ℕ) (named : ℕ) : Type 0 where
  pub in-options : List Portion
  pub in_file : List Portion
  pub in_sname : List Portion
  pub options : portions (spans_of message named).options (drop (spans_of message named).options message) ≡ whole in-options
  pub file : portions file_field.start (drop file_field.start (take (spans_of message named).file message)) ≡ whole in_file
  pub sname : portions sname_field.start (drop sname_field.start (take (spans_of message named).sname message)) ≡ whole in_sname
  pub all : aggregate (fields_of message) ≡ in-options ++ in_file ++ in_sname
  pub least : least_message ≤ length message
  pub most : length message ≤ most_bytes
  pub file_within : (spans_of message named).file ≤ 236
  pub sname_within : (spans_of message named).sname ≤ 108

pub opens : (message : List ℕ) (named : ℕ) → Open message named → Reads message named
opens message named e =
    let f = fields_of message in
    let c = checks_clear message e in
    let u = none_cut message e in
    let says = named_said message e in
    let least = header_whole message c in
    record {
      in-options = parts_in (options_read f);
      in_file = parts_in (file_read f);
      in_sname = parts_in (sname_read f);
      options = options-read message c ∙ uncut _ u.0;
      file = rw (← says) (named_read file_field message (names_file (overload f)) (omega arith) ∙ sym (file-read message) ∙ uncut _ u.1);
      sname = rw (← says) (named_read sname_field message (names_sname (overload f)) (omega arith) ∙ sym (sname-read message) ∙ uncut _ u.2);
      all = aggregate_is f;
      least = least;
      most = header_most message c;
      file_within = at_most (names_file named) 236 108 (omega arith);
      sname_within = at_most (names_sname named) 108 44 (omega arith);
    }
