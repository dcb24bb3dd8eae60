-- A message that is read is gone over field after field: what each field may be asked for behind those before it, and what all three give.
-- Assumes nothing.
use Prim.Native.Nat.{ℕ, ◌+◌, ◌≤◌}
use mathlib.Core.Path.{◌≡◌, sym, ap, ◌∙◌}
use native.Mathlib.Omega.{arith}
use mathlib.Core.List.{List, ◌++◌}
use lib.ListN.{length, take, drop, get_or, replicate}
use Rattle.std.specs.Prelude.{Ok}
use Rattle.facts.specs.Over.{over}
use Rattle.rfc.specs.Header.{file_field, sname_field}
use Rattle.rfc.specs.Lists.{Bytes}
use Rattle.rfc.specs.Portions.{Portion, portions, parts_in}
use Rattle.rfc.specs.Aggregate.{fields_of, aggregate, codes_of}
use Rattle.rfc.proofs.Bytes.{bytes_take}
use Rattle.aggregate.specs.Gathered.{value_in, Joins}
use Rattle.aggregate.specs.Marked.{Marks, sees, Sees}
use Rattle.aggregate.specs.Spanned.{spans_of}
use Rattle.aggregate.specs.Tallies.{none, tallied, counted}
use Rattle.aggregate.specs.declared.fields.Spans.{Spans}
use Rattle.aggregate.specs.declared.tally.Tally.{Tally}
use Rattle.aggregate.proofs.Spanning.{Reads}
use Rattle.aggregate.proofs.Fronts.{options_at, file_at, sname_at, file_front, sname_front}
use Rattle.aggregate.proofs.Marking.{Sofar, sofar_none, sofar_sees, sofar_more}
use Rattle.aggregate.proofs.Gathering.{Counted, counted_none, counted_more}
use Rattle.aggregate.proofs.Joining.{value_of, front_fits, InFront, front_none, front_joins, front_more}

module _ {message : List ℕ} {named : ℕ} (s : Reads message named) {at : Spans} (e : at ≡ spans_of message named) where
  -- the fields that option 52 may name, as they are lent
  abbrev file : List ℕ
  file = take at.file message

  abbrev sname : List ℕ
  sname = take at.sname message

  -- the codes that are seen
  module _ (b : Bytes message) (index : ℕ) {first : Marks}
      (options : first ≡ sees index (replicate 256 0, record { codes = 0; code = 0 }) (parts_in (portions at.options (drop at.options message)))) where
    seen-options : Sofar index s.in-options first
    seen-options = sofar_more at.options message (sofar_none index) (options_at s e) b options

    pub sees_file : Sees file file_field.start first.0 first.1
    sees_file = let f = file_front s e in sofar_sees 108 file seen-options (file_at s e) (omega (arith, f.0, f.1))

    module _ {second : Marks} (named_file : second ≡ sees index first (parts_in (portions file_field.start (drop file_field.start file)))) where
      seen_file : Sofar index (s.in-options ++ s.in_file) second
      seen_file = sofar_more 108 file seen-options (file_at s e) (bytes_take at.file message b) named_file

      pub sees_sname : Sees sname sname_field.start second.0 second.1
      sees_sname = let f = sname_front s e in sofar_sees 44 sname seen_file (sname_at s e) (omega (arith, f.0, f.1))

      pub seen_all : {third : Marks} → third ≡ sees index second (parts_in (portions sname_field.start (drop sname_field.start sname)))
          → third.1.code ≡ get_or (codes_of (aggregate (fields_of message))) index 0
      seen_all named_sname =
          let all = sofar_more 44 sname seen_file (sname_at s e) (bytes_take at.sname message b) named_sname in
          all.says.kept ∙ ap (λ (ps : List Portion). get_or (codes_of ps) index 0) (sym s.all)

  -- the parts of a code, counted
  module _ (code : ℕ) {zero first : Tally} (z : zero ≡ none)
      (options : Ok first ≡ counted code zero (portions at.options (drop at.options message))) where
    pub counted-options : Counted code s.in-options (0 + length message) first
    counted-options = counted_more at.options message (counted_none code z) (options_at s e) options

    module _ {second : Tally} (named_file : Ok second ≡ counted code first (portions file_field.start (drop file_field.start file))) where
      pub counted_file : Counted code (s.in-options ++ s.in_file) (0 + length message + length file) second
      counted_file = counted_more 108 file counted-options (file_at s e) named_file

      pub counted_all : {third : Tally} → Ok third ≡ counted code second (portions sname_field.start (drop sname_field.start sname))
          → third ≡ tallied code none (aggregate (fields_of message))
      counted_all named_sname =
          (counted_more 44 sname counted_file (sname_at s e) named_sname).is ∙ ap (tallied code none) (sym s.all)

  -- their values, joined in a buffer that has room for them all
  module _ (code : ℕ) (join : List ℕ) (fits : length (value_of code (aggregate (fields_of message))) ≤ length join) where
    all_fit : length (value_of code (s.in-options ++ s.in_file ++ s.in_sname)) ≤ length join
    all_fit = rw (← s.all) fits

    two_fit : length (value_of code (s.in-options ++ s.in_file)) ≤ length join
    two_fit = front_fits code (s.in-options ++ s.in_file) s.in_sname all_fit

    one_fits : length (value_of code s.in-options) ≤ length join
    one_fits = front_fits code s.in-options s.in_file two_fit

    pub joins-options : Joins message at.options code join 0
    joins-options = front_joins (front_none code join) at.options message (options_at s e) one_fits

    module _ {first : List ℕ} {end : ℕ}
        (options : (first ≡ over join 0 (value_in message at.options code)) × (end ≡ 0 + length (value_in message at.options code))) where
      joined-options : InFront code s.in-options join first end
      joined-options = front_more (front_none code join) at.options message (options_at s e) one_fits options

      pub joins_file : Joins file file_field.start code first end
      joins_file = front_joins joined-options 108 file (file_at s e) two_fit

      module _ {second : List ℕ} {further : ℕ}
          (named_file : (second ≡ over first end (value_in file file_field.start code)) × (further ≡ end + length (value_in file file_field.start code))) where
        joined_file : InFront code (s.in-options ++ s.in_file) join second further
        joined_file = front_more joined-options 108 file (file_at s e) two_fit named_file

        pub joins_sname : Joins sname sname_field.start code second further
        joins_sname = front_joins joined_file 44 sname (sname_at s e) all_fit

        pub joined_in_all : {third : List ℕ} {last : ℕ}
            → (third ≡ over second further (value_in sname sname_field.start code)) × (last ≡ further + length (value_in sname sname_field.start code))
            → third ≡ over join 0 (value_of code (aggregate (fields_of message)))
        joined_in_all named_sname =
            (front_more joined_file 44 sname (sname_at s e) all_fit named_sname).put
            ∙ ap (λ (ps : List Portion). over join 0 (value_of code ps)) (sym s.all)
