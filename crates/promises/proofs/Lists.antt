-- Demand 3 holds, by the laws of `rfc`.
-- Assumes nothing.
use mathlib.Core.Path.{sym, ap, ◌∙◌}
use Prim.Native.Nat.{ℕ, ◌+◌}
use native.Mathlib.Omega.{arith}
use mathlib.Core.List.{List}
use lib.ListN.{length, drop, length-append, length-drop}
use Rattle.facts.proofs.Over.{from_over}
use Rattle.rfc.specs.Lists.{encode_all, listing}
use Rattle.rfc.proofs.Lists.{writes_all, walks_all, one_list}
use Rattle.rfc.proofs.Endings.{ends}
use Rattle.rfc.proofs.Fewest.{fewest}
use Rattle.promises.specs.Lists.{RoundTrip, ListingsEnd, NeitherBegins, FewestBytes}

pub round_trip : RoundTrip
round_trip options room behind place join v short fits all joins =
    let bytes : List ℕ = encode_all options in
    let rest : List ℕ = drop (place + length bytes) room in
    record {
      written = writes_all options room place v short fits;
      walked = walks_all options behind join v joins all;
      in_the_room =
          ap (λ (area : List ℕ). listing area join) (from_over room place bytes fits)
          ∙ walks_all options rest join v joins (omega (arith, length-append bytes rest, length-drop (place + length bytes) room));
    }

pub listings_end : ListingsEnd
listings_end area join = ends area join

pub neither_begins : NeitherBegins
neither_begins one other v w short small differ = (
  λ b. differ (one_list one other b.0 v w small b.1),
  λ b. differ (sym (one_list other one b.0 w v short b.1)),
)

pub fewest_bytes : FewestBytes
fewest_bytes options area join at bytes e = fewest area join at options bytes e
