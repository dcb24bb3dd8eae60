-- `put` goes over the rows of a value: the bytes of one more are put, or they end.
-- Assumes nothing.
use mathlib.Core.Path.{◌≡◌, refl, sym, ap, ◌∙◌}
use mathlib.Core.List.{foldl}
use native.Mathlib.Omega.{arith}
use Rattle.std.specs.Prelude.{Option, None, Result, Ok}
use Rattle.rfc.specs.Strung.{all_bytes}
use Rattle.rfc.specs.Moves.{back_rows}
use Rattle.rfc.proofs.Strung.{bytes_none, given_strung}
use Rattle.refusal.specs.declared.Refusal.{Refusal}
use Rattle.laying.specs.Passes.{put}
use Rattle.classless.specs.Rows.{told_by, there}
use Rattle.classless.specs.declared.Row.{Row}
use Rattle.moves.proofs.Rows.{back_goes, back_ends, never_clear}
use Rattle.moves.proofs.RoutesRows.put.Goals as goal

pub loop-row-init : goal.loop-row-init
loop-row-init c = (omega arith, (given_strung (back_rows c.args.self.now.value.now) _ c.requires).0, refl, refl)

pub loop-row-smaller : goal.loop-row-smaller
loop-row-smaller c =
    let l = c.loop-row in
    let row = c.in-Ok-Some in
    let next = back_goes c.args.self.now.value.now l.at c.args.self.now.short l.invariant.0 row.row row.field-0-is row.ensures in
    omega (arith, next.far.0, next.far.1)

pub loop-row-preserved : goal.loop-row-preserved
loop-row-preserved c =
    let l = c.loop-row in
    let row = c.in-Ok-Some in
    let turn = c.put_pair-pass in
    let next = back_goes c.args.self.now.value.now l.at c.args.self.now.short l.invariant.0 row.row row.field-0-is row.ensures in (
      next.far.1,
      next.clear l.invariant.1,
      next.puts (l.pass, l.room) (turn.result, turn.new.room) turn.ensures ∙ l.invariant.2,
      turn.auto.room ∙ l.invariant.3,
    )

pub returns-in_default : goal.returns-in_default
returns-in_default c =
    let l = c.loop-row in
    let is : c.route_from.result ≡ Ok None = cc in
    let none = back_ends c.args.self.now.value.now l.at c.args.self.now.short l.invariant.0
    (ap (λ (r : Result (Option Row) Refusal). told_by there r) (sym is) ∙ c.route_from.ensures) in
    ap (foldl put (l.pass, l.room)) (sym (ap all_bytes none ∙ bytes_none)) ∙ l.invariant.2

pub returns-in_default-2 : goal.returns-in_default-2
returns-in_default-2 c =
    let l = c.loop-row in
    absurd (never_clear c.args.self.now.value.now l.at c.args.self.now.short l.invariant.0 c.in_default.field-0
    (ap (λ (r : Result (Option Row) Refusal). told_by there r) (sym c.in_default.is) ∙ c.route_from.ensures) l.invariant.1)
