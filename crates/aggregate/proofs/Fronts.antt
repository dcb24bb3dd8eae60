-- The fields of a message that is read, as they are lent: a front of the message, and where the field begins.
-- Assumes nothing.
use Prim.Native.Nat.{ℕ, ◌≤◌}
use mathlib.Core.Path.{◌≡◌, sym, ap, ◌∙◌}
use native.Mathlib.Omega.{arith}
use mathlib.Core.List.{List}
use lib.ListN.{length, take, drop}
use lib.Seq.{length-take-le}
use Rattle.rfc.specs.Header.{file_field, sname_field}
use Rattle.rfc.specs.Portions.{whole, portions}
use Rattle.aggregate.specs.Spanned.{spans_of}
use Rattle.aggregate.specs.declared.fields.Spans.{Spans}
use Rattle.aggregate.proofs.Spanning.{Reads}

module _ {message : List ℕ} {named : ℕ} (s : Reads message named) {at : Spans} (e : at ≡ spans_of message named) where
  pub options_at : portions at.options (drop at.options message) ≡ whole s.in-options
  options_at = (λ i. portions (e i).options (drop (e i).options message)) ∙ s.options

  pub file_at : portions file_field.start (drop file_field.start (take at.file message)) ≡ whole s.in_file
  file_at = (λ i. portions file_field.start (drop file_field.start (take (e i).file message))) ∙ s.file

  pub sname_at : portions sname_field.start (drop sname_field.start (take at.sname message)) ≡ whole s.in_sname
  sname_at = (λ i. portions sname_field.start (drop sname_field.start (take (e i).sname message))) ∙ s.sname

  pub file_front : (at.file ≡ length (take at.file message)) × (at.file ≤ 236)
  file_front =
      let h : at.file ≤ 236 = omega (arith, ap (λ (x : Spans). x.file) e, s.file_within) in
      (sym (length-take-le at.file message (omega (arith, s.least))), h)

  pub sname_front : (at.sname ≡ length (take at.sname message)) × (at.sname ≤ 108)
  sname_front =
      let h : at.sname ≤ 108 = omega (arith, ap (λ (x : Spans). x.sname) e, s.sname_within) in
      (sym (length-take-le at.sname message (omega (arith, s.least))), h)
