-- The rows one behind the other: how far a run has come, after a row that is written, at one that is refused, and with no whole row left.
-- Both passes go the same way: the one that judges writes nothing, and of a room only its length decides.
-- Assumes nothing.
use mathlib.Core.Path.{◌≡◌, refl, sym, ap, ◌∙◌, subst}
use Prim.Native.Nat.{ℕ, suc, ◌+◌, ◌*◌, ◌/◌, ◌≤◌, ◌<◌}
use mathlib.Core.List.{List, [], ◌∷◌}
use native.Mathlib.Numerals.{add-one}
use native.Mathlib.Omega.{arith}
use lib.ListN.{length, drop, get_or, length-drop}
use lib.Seq.{drop-cons}
use Rattle.rfc.specs.Numbers.{Answer, given, refused, needs, most_bytes}
use Rattle.rfc.specs.Writing.{Write, answer_to, room_after}
use Rattle.rfc.proofs.Numbers.{here, later, refuses, done, next, clears, long, not_long, past, not_past}
use Rattle.rfc.proofs.Writing.{given_to, given_fits, given_keeps, never_needs, same_answer}
use Rattle.std.specs.Prelude.{Result, Ok, Err, MatchResult, IsErrAnd}
use Rattle.refusal.specs.declared.Refusal.{Refusal}
use Rattle.refusal.specs.declared.Refusal.TheVariants.{TooLong, PastEnd}
use Rattle.refusal.specs.Told.{says, told}
use Rattle.refusal.proofs.Told.{told_one}
use Rattle.encoder.specs.Written.{Wrote}
use Rattle.options.specs.declared.rows.RowsWritten.{RowsWritten}
use Rattle.options.specs.declared.rows.RowRefused.{RowRefused}
use Rattle.options.specs.Rows.{write_row, row_at, write_of, Outcome, all, stuck, or_stuck, rows_from, write_rows, answer_of, room_of, rows_told, WroteRows, InRoom, Passes, AllPass}

-- the next three numbers
next_three : (l : List ℕ) (k : ℕ) → k + 3 ≤ length l
    → drop k l ≡ get_or l k 0 ∷ get_or l (k + 1) 0 ∷ get_or l (k + 2) 0 ∷ drop (k + 3) l
next_three l k h =
    let one : suc k ≡ k + 1 = omega arith in
    let two : suc (k + 1) ≡ k + 2 = omega arith in
    let three : suc (k + 2) ≡ k + 3 = omega arith in
    rw (drop-cons l k 0 (omega arith), one, drop-cons l (k + 1) 0 (omega arith), two, drop-cons l (k + 2) 0 (omega arith), three)

-- fewer than three numbers are no row
pub no_row : (index : ℕ) (l values room : List ℕ) (at : ℕ) → length l < 3 → rows_from index l values room at ≡ all index room at
unfolding rows_from
no_row index [] values room at h = refl
no_row index (a ∷ []) values room at h = refl
no_row index (a ∷ b ∷ []) values room at h = refl
no_row index (a ∷ b ∷ c ∷ l) values room at h = absurd (let f : ⊥ = omega arith in f)

-- the first row, by what its write answers: it decides, or the rest goes on behind it
module _ (index code start len : ℕ) (rows values room : List ℕ) (at : ℕ) where
  abbrev from_row : List ℕ
  from_row = code ∷ start ∷ len ∷ rows

  first_row : {a : Answer ℕ} → answer_to (write_row code start len values) room at ≡ a
      → rows_from index from_row values room at
      ≡ or_stuck index a (rows_from (suc index) rows values (room_after (write_row code start len values) room at))
  unfolding rows_from
  first_row e =
      ap (λ (a : Answer ℕ). or_stuck index a (rows_from (suc index) rows values (room_after (write_row code start len values) room at))) e

  pub row_goes_on : {to : ℕ} → answer_to (write_row code start len values) room at ≡ given to
      → rows_from index from_row values room at ≡ rows_from (suc index) rows values (room_after (write_row code start len values) room at) to
  unfolding or_stuck
  row_goes_on e = first_row e

  pub row_decides : {number : ℕ} → answer_to (write_row code start len values) room at ≡ refused number
      → rows_from index from_row values room at ≡ stuck index number
  unfolding or_stuck
  row_decides e = first_row e

-- a run has come to a place, with `index` rows behind it: what is left gives, from there, the same outcome
pub record Reached (rows values room₀ : List ℕ) (place : ℕ) (room : List ℕ) (at index : ℕ) : Type 0 where
  pub same : rows_from index (drop (3 * index) rows) values room at ≡ rows_from 0 rows values room₀ place
  pub keeps : length room ≡ length room₀
  pub within : at ≤ length room

-- the same in a room of which only the length is known, as where nothing is written yet
pub record Judged (rows values room₀ : List ℕ) (place at index : ℕ) : Type 0 where
  pub would : List ℕ
  pub reached : Reached rows values room₀ place would at index

module _ {rows values room₀ room : List ℕ} {place at index : ℕ} (reached : Reached rows values room₀ place room at index) where
  pub reached_all : length rows / 3 ≤ index → all index room at ≡ rows_from 0 rows values room₀ place
  reached_all h =
      sym (no_row index (drop (3 * index) rows) values room at (omega (arith, length-drop (3 * index) rows))) ∙ reached.same

  module _ (h : index < length rows / 3) where
    abbrev write : Write
    write = write_of (row_at rows index) values

    -- the rows from there on
    these : rows_from index ((row_at rows index).code ∷ (row_at rows index).start ∷ (row_at rows index).len ∷ drop (3 * index + 3) rows) values room at
        ≡ rows_from 0 rows values room₀ place
    these = ap (λ (l : List ℕ). rows_from index l values room at) (sym (next_three rows (3 * index) (omega arith))) ∙ reached.same

    -- a row that is written
    pub reached_more : {to : ℕ} → answer_to write room at ≡ given to → Reached rows values room₀ place (room_after write room at) to (index + 1)
    reached_more {to} e =
        let next : 3 * (index + 1) ≡ 3 * index + 3 = omega arith in
        record {
          same =
              ap (λ (k : ℕ). rows_from (index + 1) (drop k rows) values (room_after write room at) to) next
              ∙ ap (λ (n : ℕ). rows_from n (drop (3 * index + 3) rows) values (room_after write room at) to) (add-one index)
              ∙ sym (row_goes_on index _ _ _ (drop (3 * index + 3) rows) values room at e)
              ∙ these;
          keeps = given_keeps write room at to e ∙ reached.keeps;
          within = omega (arith, given_to write room at to e, given_fits write room at to e, given_keeps write room at to e);
        }

    -- a row that is refused
    pub reached_stuck : {number : ℕ} → answer_to write room at ≡ refused number → stuck index number ≡ rows_from 0 rows values room₀ place
    reached_stuck e = sym (row_decides index _ _ _ (drop (3 * index + 3) rows) values room at e) ∙ these

    -- where no row is refused, this one is not
    pub reached_passes : AllPass rows values room₀ place → Passes (row_at rows index) values room at
    reached_passes pass = go (answer_to write room at) refl
      where
        in_room : InRoom room at
        in_room = record { short = omega (arith, pass.in_room.short, reached.keeps); within = reached.within }

        go : (a : Answer ℕ) → answer_to write room at ≡ a → Passes (row_at rows index) values room at
        go (given to) e = record { in_room = in_room; to = to; passes = e }
        go (refused number) e = absurd (let f = reached_stuck e ∙ pass.passes in cc)
        go (needs n) e = absurd (never_needs write room at n e)

-- a row's answer, and the same with the row's index beside a refusal
abbrev pub Named : ℕ → Result ℕ Refusal → Result ℕ RowRefused → Type 0
Named index r named =
    MatchResult r (λ to. named ≡ Ok to) (λ e. IsErrAnd named (λ f. f ≡ record { row = index; refusal = e }))

was_given : (index : ℕ) (r : Result ℕ Refusal) {to : ℕ} → Named index r (Ok to) → r ≡ Ok to
was_given index (Ok x) h = cc
was_given index (Err e) h = absurd h

was_refused : (index : ℕ) (r : Result ℕ Refusal) {f : RowRefused} → Named index r (Err f)
    → (r ≡ Err f.refusal) × (f.row ≡ index)
was_refused index (Ok x) h = absurd cc
was_refused index (Err e) h = (ap (λ (g : RowRefused). Err g.refusal) (sym h), ap (λ (g : RowRefused). g.row) h)

-- where nothing is written yet, by what a write would answer
module _ {rows values room₀ : List ℕ} {place at index : ℕ} (judged : Judged rows values room₀ place at index) where
  pub judged_end : length rows / 3 ≤ index → Ok (index, at) ≡ answer_of (rows_from 0 rows values room₀ place)
  judged_end h = ap answer_of (reached_all judged.reached h)

  module _ (h : index < length rows / 3) (r : Result ℕ Refusal) (tells : told r ≡ answer_to (write_of (row_at rows index) values) room₀ at) where
    answers : {q : Result ℕ Refusal} → r ≡ q → answer_to (write_of (row_at rows index) values) judged.would at ≡ told q
    answers e = same_answer _ _ _ room₀ judged.reached.keeps ∙ sym tells ∙ ap told e

    pub judged_more : {to : ℕ} → Named index r (Ok to) → Judged rows values room₀ place to (index + 1)
    judged_more n = record { would = _; reached = reached_more judged.reached h (answers (was_given index r n)) }

    pub judged_at : (f : RowRefused) → Named index r (Err f) → rows_told (Err f) ≡ answer_of (rows_from 0 rows values room₀ place)
    judged_at f n =
        let was = was_refused index r n in ap (λ (k : ℕ). Err (k, says f.refusal)) was.1 ∙ go was.0 _ refl
      where
        go : r ≡ Err f.refusal → (a : Answer ℕ) → answer_to (write_of (row_at rows index) values) judged.would at ≡ a
            → Err (index, says f.refusal) ≡ answer_of (rows_from 0 rows values room₀ place)
        go is (given to) e = absurd (let z = told_one (Err f.refusal) (Ok to) (sym (answers is) ∙ e) in cc)
        go is (refused number) e =
            ap (λ (a : Answer ℕ). Err (index, a)) (sym (answers is) ∙ e) ∙ ap answer_of (reached_stuck judged.reached h e)
        go is (needs n) e = absurd (never_needs _ judged.would at n e)

-- the same by what a write answers and leaves
pub written_more : {rows values room₀ room room' : List ℕ} {place at index to : ℕ} → Reached rows values room₀ place room at index
    → index < length rows / 3 → Wrote (write_of (row_at rows index) values) room room' at (Ok to)
    → Reached rows values room₀ place room' to (index + 1)
written_more {rows} {values} {room₀} {room} {room'} {place} {at} {index} {to} reached h w =
    subst (λ (r : List ℕ). Reached rows values room₀ place r to (index + 1)) (sym w.left) (reached_more reached h (sym w.tells))

pub written_all : {rows values room₀ room : List ℕ} {place at index : ℕ} → Reached rows values room₀ place room at index
    → length rows / 3 ≤ index → room ≡ room_of (rows_from 0 rows values room₀ place) room₀
written_all {room₀ = room₀} reached h = ap (λ (o : Outcome). room_of o room₀) (reached_all reached h)

-- what was judged, back from its answer
judged_all : (o : Outcome) (count to : ℕ) → Ok (count, to) ≡ answer_of o → (room : List ℕ) × (o ≡ all count room to)
judged_all (all n room end) count to e = (room, let f : ◌≡◌ {A = ℕ × ℕ} (count, to) (n, end) = cc in ap (λ p. all p.0 room p.1) (sym f))
judged_all (stuck index number) count to e = absurd cc

-- one call, by its checks
module _ (rows values room : List ℕ) (place : ℕ) where
  -- a refusal changes nothing
  stuck_wrote : (o : Outcome) (r : RowRefused) → write_rows rows values room place ≡ o → rows_told (Err r) ≡ answer_of o
      → WroteRows rows values room room place (Err r)
  stuck_wrote (all count room' to) r e t = absurd cc
  stuck_wrote (stuck index number) r e t =
      record { tells = t ∙ sym (ap answer_of e); left = sym (ap (λ (o : Outcome). room_of o room) e) }

  pub rows_2 : most_bytes < length room → WroteRows rows values room room place (Err (record { row = 0; refusal = TooLong }))
  unfolding write_rows or_stuck
  rows_2 a =
      stuck_wrote (stuck 0 2) _ (ap (λ (x : Answer ℕ). or_stuck 0 x (rows_from 0 rows values room)) (refuses _ (here (long room a)))) refl

  module _ (a : length room ≤ most_bytes) where
    pub rows_4 : length room < place → WroteRows rows values room room place (Err (record { row = 0; refusal = PastEnd }))
    unfolding write_rows or_stuck
    rows_4 b =
        stuck_wrote (stuck 0 4) _
        (ap (λ (x : Answer ℕ). or_stuck 0 x (rows_from 0 rows values room)) (refuses _ (later (not_long room a) (here (past place room b)))))
        refl

    -- else the rows decide
    module _ (b : place ≤ length room) where
      pub rows_decide : write_rows rows values room place ≡ rows_from 0 rows values room place
      unfolding write_rows or_stuck
      rows_decide =
          ap (λ (x : Answer ℕ). or_stuck 0 x (rows_from 0 rows values room))
          (clears _ (next (not_long room a) (next (not_past place room b) done)))

      pub rows_stuck : {r : RowRefused} → rows_told (Err r) ≡ answer_of (rows_from 0 rows values room place)
          → WroteRows rows values room room place (Err r)
      rows_stuck {r} e = stuck_wrote _ r rows_decide e

      module _ (w : RowsWritten) (e : rows_told (Ok w) ≡ answer_of (rows_from 0 rows values room place)) where
        pub rows_pass : AllPass rows values room place
        rows_pass =
            let j = judged_all _ w.rows w.place e in
            record { in_room = record { short = a; within = b }; count = w.rows; room' = j.0; to = w.place; passes = j.1 }

        pub rows_all : {room' : List ℕ} → room' ≡ room_of (rows_from 0 rows values room place) room
            → WroteRows rows values room room' place (Ok w)
        rows_all l =
            record {
              tells = e ∙ sym (ap answer_of rows_decide);
              left = l ∙ sym (ap (λ (o : Outcome). room_of o room) rows_decide);
            }

-- two answers that tell the same are the same
pub rows_one : (r q : Result RowsWritten RowRefused) → rows_told r ≡ rows_told q → r ≡ q
rows_one (Ok w) (Ok v) e =
    let f : ◌≡◌ {A = ℕ × ℕ} (w.rows, w.place) (v.rows, v.place) = cc in ap (λ p. Ok (record { rows = p.0; place = p.1 })) f
rows_one (Ok w) (Err f) e = absurd cc
rows_one (Err f) (Ok w) e = absurd cc
rows_one (Err f) (Err g) e =
    let p : ◌≡◌ {A = ℕ × Answer ℕ} (f.row, says f.refusal) (g.row, says g.refusal) = cc in
    let same : Err f.refusal ≡ Err g.refusal = told_one (Err f.refusal) (Err g.refusal) (ap (λ x. x.1) p) in
    let row : f.row ≡ g.row = ap (λ x. x.0) p in
    let both : ◌≡◌ {A = ℕ × Refusal} (f.row, f.refusal) (g.row, g.refusal) = cc in
    ap (λ x. Err (record { row = x.0; refusal = x.1 })) both
