-- One value joined behind another: what the join buffer holds after each turn of the loop over a field's parts.
-- Assumes nothing.
use Prim.Native.Nat.{ℕ, ◌+◌, ◌-◌, ◌≤◌}
use mathlib.Core.Path.{◌≡◌, sym, ap, ◌∙◌}
use native.Mathlib.Omega.{arith}
use mathlib.Core.List.{List, [], ◌∷◌, ◌++◌, append-nil, append_assoc}
use lib.ListN.{length, take, drop, length-append}
use Rattle.std.specs.Prelude.{Option, Some, None, Result, Ok}
use Rattle.facts.specs.Over.{over}
use Rattle.facts.proofs.Over.{over_nil, over_over, length_over}
use Rattle.rfc.specs.Portions.{Portion, portion, next_portion, whole, portions, of_code, joined_value}
use Rattle.rfc.specs.Writing.{write_slice}
use Rattle.rfc.proofs.Portions.{parts_whole}
use Rattle.rfc.proofs.Sizes.{joined_none, joined_first, joined_append}
use Rattle.rfc.proofs.OfCode.{of_none, of_first, of_other, of_both}
use Rattle.rfc.proofs.Standing.{whole_in_place}
use Rattle.encoder.specs.Written.{Wrote}
use Rattle.encoder.proofs.Answers.{put_part}
use Rattle.portions.specs.Told.{next_of}
use Rattle.portions.specs.declared.Portion as numbers
use Rattle.refusal.specs.declared.Refusal.{Refusal}
use Rattle.portions.proofs.Left.{FirstLeft, first_left, none_left}
use Rattle.aggregate.specs.Gathered.{value_in, Joins}

-- the values of a code in some parts, joined
abbrev pub value_of : ℕ → List Portion → List ℕ
value_of code ps = joined_value (of_code code ps)

-- part by part
value_none : (code : ℕ) → value_of code [] ≡ []
value_none code = ap joined_value (of_none code) ∙ joined_none

value_first : (code : ℕ) (p : Portion) (ps : List Portion) → p.code ≡ code
    → value_of code (p ∷ ps) ≡ p.value ++ value_of code ps
value_first code p ps e = ap joined_value (of_first code p ps e) ∙ joined_first p (of_code code ps)

value_other : (code : ℕ) (p : Portion) (ps : List Portion) → (p.code ≡ code → ⊥)
    → value_of code (p ∷ ps) ≡ value_of code ps
value_other code p ps e = ap joined_value (of_other code p ps e)

-- those of some parts, and then those of others
value_both : (code : ℕ) (ps qs : List Portion) → value_of code (ps ++ qs) ≡ value_of code ps ++ value_of code qs
value_both code ps qs = ap joined_value (of_both code ps qs) ∙ joined_append (of_code code ps) (of_code code qs)

both_length : (code : ℕ) (ps qs : List Portion) → length (value_of code (ps ++ qs)) ≡ length (value_of code ps) + length (value_of code qs)
both_length code ps qs = ap length (value_both code ps qs) ∙ length-append (value_of code ps) (value_of code qs)

pub front_fits : (code : ℕ) (ps qs : List Portion) {n : ℕ} → length (value_of code (ps ++ qs)) ≤ n → length (value_of code ps) ≤ n
front_fits code ps qs h = omega (arith, both_length code ps qs)

-- some values are joined up to `end`, and those of the parts that are left stand from `at` on
pub record Joined (bytes : List ℕ) (start code : ℕ) (join₀ : List ℕ) (to : ℕ) (join : List ℕ) (at end : ℕ) : Type 0 where
  pub done : List ℕ
  pub left : List Portion
  pub all : value_in bytes start code ≡ done ++ value_of code left
  pub fits : to + length (value_in bytes start code) ≤ length join₀
  pub put : join ≡ over join₀ to done
  pub ends : end ≡ to + length done
  pub rest : portions at (drop at bytes) ≡ whole left

pub joined_start : {bytes : List ℕ} {start code : ℕ} {join : List ℕ} {to : ℕ} → Joins bytes start code join to
    → Joined bytes start code join to join start to
joined_start {bytes} {start} {code} {join} {to} h =
    record {
      done = [];
      left = h.parts;
      all = ap (value_of code) (parts_whole h.uncut);
      fits = h.fits;
      put = sym (over_nil join to);
      ends = omega arith;
      rest = h.uncut;
    }

module _ {bytes : List ℕ} {start code : ℕ} {join₀ : List ℕ} {to : ℕ} {join : List ℕ} {at end : ℕ}
    (s : Joined bytes start code join₀ to join at end) where
  all_length : length (value_in bytes start code) ≡ length s.done + length (value_of code s.left)
  all_length = ap length s.all ∙ length-append s.done _

  pub join_long : length join ≡ length join₀
  join_long = ap length s.put ∙ length_over join₀ to s.done (omega (arith, s.fits, all_length))

  module _ (r : Result (Option numbers.Portion) Refusal) (told : r ≡ next_of (next_portion at (drop at bytes))) where
    -- where no part is left, all are joined
    pub joined_all : r ≡ Ok None
        → (join ≡ over join₀ to (value_in bytes start code)) × (end ≡ to + length (value_in bytes start code))
    joined_all t =
        let z : s.left ≡ [] = none_left bytes at s.left s.rest r told t in
        let e : value_in bytes start code ≡ s.done =
        s.all ∙ ap (λ (l : List ℕ). s.done ++ l) (ap (value_of code) z ∙ value_none code) ∙ append-nil _ in
        (s.put ∙ ap (over join₀ to) (sym e), s.ends ∙ ap (λ (l : List ℕ). to + length l) (sym e))

    module _ {q : numbers.Portion} (e : r ≡ Ok (Some q)) where
      first : FirstLeft bytes at s.left q.code q.len q.place
      first = first_left bytes at s.left s.rest r told e

      -- a turn goes on in the field
      pub part_within : (at + 2 + q.len ≤ q.place) × (q.place ≤ length bytes)
      part_within = (first.behind, first.within)

      -- a part of another code is passed
      pub joined_other : (q.code ≡ code → ⊥) → Joined bytes start code join₀ to join q.place end
      joined_other k =
          record {
            done = s.done;
            left = first.rest;
            all =
                s.all ∙ ap (λ (l : List ℕ). s.done ++ l)
                (ap (value_of code) first.is ∙ value_other code (portion q.code first.value q.place) first.rest k);
            fits = s.fits;
            put = s.put;
            ends = s.ends;
            rest = first.left;
          }

      module _ (k : q.code ≡ code) where
        more : value_in bytes start code ≡ s.done ++ first.value ++ value_of code first.rest
        more =
            s.all
            ∙ ap (λ (l : List ℕ). s.done ++ l)
            (ap (value_of code) first.is ∙ value_first code (portion q.code first.value q.place) first.rest k)
            ∙ sym (append_assoc s.done first.value _)

        -- the next value fits behind what is joined
        pub part_fits : end + q.len ≤ length join
        part_fits =
            omega (
              arith,
              s.ends,
              s.fits,
              join_long,
              first.long,
              ap length more,
              length-append (s.done ++ first.value) (value_of code first.rest),
              length-append s.done first.value,
            )

        -- it stands before its place, and is written into just its part of the join buffer
        shown : take q.len (drop (q.place - q.len) bytes) ≡ first.value
        shown =
            let stands = (whole_in_place bytes at (drop at bytes) [] _ (sym (append-nil _)) (s.rest ∙ ap whole first.is)).0 in
            ap (λ (m : ℕ). take m (drop (q.place - m) bytes)) (sym first.long) ∙ stands.value

        pub joined_more : {part : List ℕ} {w : Result ℕ Refusal}
            → Wrote (write_slice (take (q.place - (q.place - q.len)) (drop (q.place - q.len) bytes)) (take (end + q.len - end) (drop end join)) 0)
            (take (end + q.len - end) (drop end join)) part 0 w
            → Joined bytes start code join₀ to (take end join ++ (part ++ drop (end + q.len - end) (drop end join))) q.place (end + q.len)
        joined_more h =
            let f = first in
            let a : q.place - (q.place - q.len) ≡ q.len = omega (arith, f.behind) in
            let b : end + q.len - end ≡ q.len = omega arith in
            let p : List ℕ = f.value in
            let put = put_part p join end (end + q.len - end) (f.long ∙ sym b) (omega (arith, part_fits)) (rw (a, shown) at h) in
            record {
              done = s.done ++ p;
              left = f.rest;
              all = more;
              fits = s.fits;
              put =
                  put ∙ (λ i. over (s.put i) (s.ends i) p)
                  ∙ over_over join₀ to s.done p (omega (arith, s.fits, all_length));
              ends = omega (arith, s.ends, f.long, length-append s.done p);
              rest = f.left;
            }

-- in a field that is whole
value-in : (bytes : List ℕ) (start code : ℕ) {ps : List Portion} → portions start (drop start bytes) ≡ whole ps
    → value_in bytes start code ≡ value_of code ps
value-in bytes start code w = ap (value_of code) (parts_whole w)

-- the values of these parts stand in the front of the join buffer, up to `end`
pub record InFront (code : ℕ) (ps : List Portion) (join₀ join : List ℕ) (end : ℕ) : Type 0 where
  pub put : join ≡ over join₀ 0 (value_of code ps)
  pub ends : end ≡ length (value_of code ps)

pub front_none : (code : ℕ) (join : List ℕ) → InFront code [] join join 0
front_none code join =
    record {
      put = sym (ap (over join 0) (value_none code) ∙ over_nil join 0);
      ends = sym (ap length (value_none code));
    }

module _ {code : ℕ} {ps qs : List Portion} {join₀ join : List ℕ} {end : ℕ} (s : InFront code ps join₀ join end)
    (start : ℕ) (bytes : List ℕ) (w : portions start (drop start bytes) ≡ whole qs) (fits : length (value_of code (ps ++ qs)) ≤ length join₀) where
  both_fit : length (value_of code ps) + length (value_of code qs) ≤ length join₀
  both_fit = omega (arith, both_length code ps qs)

  -- there is room for those of a field behind them
  pub front_joins : Joins bytes start code join end
  front_joins =
      record {
        parts = qs;
        uncut = w;
        fits =
            omega (
              arith,
              both_fit,
              s.ends,
              ap length s.put,
              length_over join₀ 0 (value_of code ps) (omega (arith, both_fit)),
              ap length (value-in bytes start code w),
            );
      }

  pub front_more : {join' : List ℕ} {end' : ℕ}
      → (join' ≡ over join end (value_in bytes start code)) × (end' ≡ end + length (value_in bytes start code))
      → InFront code (ps ++ qs) join₀ join' end'
  front_more h =
      let to : end ≡ 0 + length (value_of code ps) = omega (arith, s.ends) in
      record {
        put =
            h.0
            ∙ (λ i. over (s.put i) (to i) (value-in bytes start code w i))
            ∙ over_over join₀ 0 (value_of code ps) (value_of code qs) (omega (arith, both_fit))
            ∙ ap (over join₀ 0) (sym (value_both code ps qs));
        ends =
            omega (
              arith,
              h.1,
              s.ends,
              ap length (value-in bytes start code w),
              both_length code ps qs,
            );
      }
