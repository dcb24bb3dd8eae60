-- Where the fields of a message stand that hold options, over the definitions of `Rattle.rfc.specs.Aggregate`.
-- Assumes nothing.
use Rattle.std.specs.Prelude.{ℕ, ◌≡◌, ◌≤◌, Bool, cond, ◌||◌, List, length, Result, Ok, Err}
use Rattle.rfc.specs.Numbers.{Answer, given, refused, needs, least_message, most_bytes}
use Rattle.rfc.specs.Header.{Area, area, options, wrong_magic, bytes_of, sname_field, file_field, magic_field}
use Rattle.rfc.specs.Portions.{is_cut}
use Rattle.rfc.specs.Aggregate.{OptionFields, overloads, unclear_overload, overload, overload_of, names_file, names_sname, read_named}
use Rattle.refusal.specs.declared.Refusal.{Refusal}
use Rattle.refusal.specs.declared.Refusal.TheVariants.{FieldCut, UnclearOverload}
use Rattle.aggregate.specs.declared.fields.Spans.{Spans}

-- where the options begin; a message without an area of options has them at its end
abbrev pub options_start : List ℕ → Answer Area → ℕ
options_start message (given (options p)) = p.start
options_start message (given wrong_magic) = length message
options_start message (refused k) = length message
options_start message (needs len) = length message

-- a field that is named goes up to what stands behind it, and another ends where it begins
abbrev pub spans_of : List ℕ → ℕ → Spans
spans_of message named =
    record {
      options = options_start message (area message);
      file = cond (names_file named) magic_field.start file_field.start;
      sname = cond (names_sname named) file_field.start sname_field.start;
    }

-- a message that is read, whose option 52 says `named`
abbrev pub Open : List ℕ → ℕ → Type 0
Open message named = overload_of message ≡ given named

-- Between the functions of the crate: a message that is read
pub record Whole (message : List ℕ) : Type 0 where
  pub least : least_message ≤ length message
  pub most : length message ≤ most_bytes

-- what option 52 says, where it is clear
abbrev pub overload_said : OptionFields → Result ℕ Refusal
overload_said f = cond (unclear_overload (overloads f)) (Err UnclearOverload) (Ok (overload f))

-- whether a field is cut that is named
abbrev pub named_cut : List ℕ → ℕ → Bool
named_cut message named =
    is_cut (read_named (names_file named) file_field.start (bytes_of file_field message))
    || is_cut (read_named (names_sname named) sname_field.start (bytes_of sname_field message))

abbrev pub named_said : List ℕ → ℕ → Result (Unit {0}) Refusal
named_said message named = cond (named_cut message named) (Err FieldCut) (Ok (tt {0}))
