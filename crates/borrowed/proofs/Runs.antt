-- Runs of parts that are known by their numbers, as the code knows them.
-- Assumes nothing.
use mathlib.Core.Path.{◌≡◌, refl, sym, ap, ◌∙◌}
use Prim.Native.Nat.{ℕ, suc, ◌+◌, ◌≤◌}
use native.Mathlib.Omega.{arith}
use mathlib.Core.List.{List, [], ◌++◌}
use lib.ListN.{length, take, drop, get_or, length-drop, length-append}
use lib.Seq.{length-take-le}
use Rattle.std.specs.Prelude.{Option, Some, None}
use Rattle.rfc.specs.Walk as rfc
use Rattle.rfc.specs.Walk.{cut, run, extend, further}
use Rattle.rfc.proofs.Walk.{extend_cut, extend_run}
use Rattle.rfc.proofs.Places.{further_none_at, further_other_at, further_no_length_at, further_no_value_at, further_more_at, run_within}
use Rattle.borrowed.specs.Walked.{size_of, values}
use Rattle.borrowed.specs.declared.parts.Run.{Run}

-- a run that is known by its numbers
pub whole_is : (w : Run) (r : rfc.Run) → Some w ≡ size_of r → (r ≡ run w.parts (values r)) × (length (values r) ≡ w.len)
whole_is w cut e = (cc, cc)
whole_is w (run n vs) e =
    let same : w ≡ record { parts = n; len = length vs } = cc in
    (ap (λ (q : Run). run q.parts vs) (sym same), ap (λ (q : Run). q.len) (sym same))

pub cut_is : (r : rfc.Run) → None ≡ size_of r → r ≡ cut
cut_is cut e = refl
cut_is (run n vs) e = cc

-- so many parts, with so many bytes, in front of a run
abbrev pub grow : ℕ → ℕ → Option Run → Option Run
grow parts len None = None
grow parts len (Some w) = Some (record { parts = parts + w.parts; len = len + w.len })

-- one part more
grow_more : (parts len n : ℕ) (v : List ℕ) (r : rfc.Run) → length v ≡ n
    → grow parts len (size_of (extend v r)) ≡ grow (parts + 1) (len + n) (size_of r)
grow_more parts len n v cut e = ap (λ (q : rfc.Run). grow parts len (size_of q)) (extend_cut v)
grow_more parts len n v (run k vs) e =
    let a : parts + suc k ≡ parts + 1 + k = omega arith in
    let b : len + length (v ++ vs) ≡ len + n + length vs = omega (arith, length-append v vs) in
    ap (λ (q : rfc.Run). grow parts len (size_of q)) (extend_run v k vs) ∙ (λ i. Some (record { parts = a i; len = b i }))

-- the end of a scan: no further part, so what has been counted is all
pub grow_run : (parts len : ℕ) (r : rfc.Run) → r ≡ run 0 [] → Some (record { parts = parts; len = len }) ≡ grow parts len (size_of r)
grow_run parts len r e =
    let a : parts ≡ parts + 0 = omega arith in
    let b : len ≡ len + 0 = omega arith in
    (λ i. Some (record { parts = a i; len = b i })) ∙ ap (λ (q : rfc.Run). grow parts len (size_of q)) (sym e)

pub grow_cut : (parts len : ℕ) (r : rfc.Run) → r ≡ cut → None ≡ grow parts len (size_of r)
grow_cut parts len r e = ap (λ (q : rfc.Run). grow parts len (size_of q)) (sym e)

-- a turn of a scan
pub scan_turn : (area : List ℕ) (i code parts len : ℕ) → get_or area i 0 ≡ code → i + 2 + get_or area (i + 1) 0 ≤ length area
    → grow parts len (size_of (further code (drop i area)))
    ≡ grow (parts + 1) (len + get_or area (i + 1) 0) (size_of (further code (drop (i + 2 + get_or area (i + 1) 0) area)))
scan_turn area i code parts len e h =
    let n : ℕ = get_or area (i + 1) 0 in
    ap (λ (q : rfc.Run). grow parts len (size_of q)) (further_more_at area i code e h)
    ∙ grow_more parts len n (take n (drop (i + 2) area)) _ (length-take-le n (drop (i + 2) area) (omega (arith, length-drop (i + 2) area)))

-- a turn over an empty part
pub scan_empty : (area : List ℕ) (i code parts len : ℕ) → get_or area i 0 ≡ code → get_or area (i + 1) 0 ≡ 0 → i + 2 ≤ length area
    → grow parts len (size_of (further code (drop i area))) ≡ grow (parts + 1) len (size_of (further code (drop (i + 2) area)))
scan_empty area i code parts len e z h =
    let a : len + get_or area (i + 1) 0 ≡ len = omega (arith, z) in
    let b : i + 2 + get_or area (i + 1) 0 ≡ i + 2 = omega (arith, z) in
    scan_turn area i code parts len e (omega (arith, z)) ∙ (λ j. grow (parts + 1) (a j) (size_of (further code (drop (b j) area))))

-- the returns and the turns of a scan
pub ruleset scanning = (further_none_at, further_other_at, further_no_length_at, further_no_value_at, grow_run, grow_cut, scan_turn, scan_empty)
