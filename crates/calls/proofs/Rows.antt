-- Demand 3 over calls of all options at once.
-- Assumes nothing.
use mathlib.Core.Path.{◌≡◌, sym, ap, ◌∙◌, subst}
use Prim.Native.Nat.{ℕ, ◌+◌, ◌/◌, ◌≤◌}
use native.Mathlib.Omega.{arith}
use mathlib.Core.List.{List, ◌++◌}
use lib.Dec.{lit≤}
use lib.ListN.{length, drop}
use Rattle.facts.proofs.Over.{from_over}
use Rattle.rfc.specs.Numbers.{Answer, given, most_bytes}
use Rattle.rfc.specs.Walk as walk
use Rattle.rfc.specs.Writing.{answer_to, room_after, close}
use Rattle.rfc.specs.Lists as rfc
use Rattle.rfc.specs.Lists.{Opt, encode_all, listing}
use Rattle.rfc.proofs.Lists.{writes_all, walks_all, list_whole}
use Rattle.options.specs.Rows.{Outcome, room_of}
use Rattle.options.proofs.Runs.{rows_decide}
use Rattle.crossing.specs.Carried as boundary
use Rattle.sindovaleph_rows.specs.Writing.{written_rows}
use Rattle.sindovaleph_rows.specs.declared.writing.WrittenRows.{WrittenRows}
use Rattle.sindovaleph_rows.specs.Listing.{Listing, found, list, list_in, last_number, listed_of, rows_after}
use Rattle.sindovaleph_rows.specs.declared.listing.Listed.{Listed}
use Rattle.sindovaleph_rows.proofs.Filling.{list_given}
use Rattle.calls.specs.Calls.{named, TellAll, RowsAreListed, RowsRoundTrip}
use Rattle.calls.proofs.RowsWritten.{all_rowed, closes_so}
use Rattle.calls.proofs.RowsListed.{Told, told}

pub rows_are_listed : RowsAreListed
rows_are_listed area table table' r short room lists =
    let k : ℕ = length table / 4 in
    let l : Listing = list_in k found area 0 in
    let same : listing area most_bytes ≡ rfc.list_in (length area) area most_bytes 0 = list_whole area most_bytes in
    let t : Told area l (listing area most_bytes) =
    subst (Told area l) (sym same)
    (told area short (length area) k 0 (omega arith) (omega arith) (omega (arith, ap (λ (m : rfc.Listing). length m.options) same))) in
    let given_so : list found area 0 (length table) ≡ given l = list_given found area 0 (length table) short (omega arith) in
    let is = lists.told ∙ ap (listed_of found 0) given_so in
    let os : List Opt = (listing area most_bytes).options in
    let fits : 0 + length l.rows ≤ length table = omega (arith, t.long, room) in
    let filled : table' ≡ l.rows ++ drop (0 + length l.rows) table =
    lists.kept ∙ ap (λ (a : Answer Listing). rows_after a table) given_so ∙ from_over table 0 l.rows fits in
    let counted : length l.rows / 4 ≡ length os = omega (arith, t.long) in
    record {
      refused = ap (λ (x : Listed). x.refused) is;
      count = ap (λ (x : Listed). x.rows) is ∙ counted;
      rows = subst (λ (x : List ℕ). TellAll area x os) (sym filled) (t.tell (drop (0 + length l.rows) table));
      last = (
        t.stop,
        ap (λ (x : Listed). x.stop) is ∙ ap last_number t.last,
        t.ending ∙ ap (λ (k : ℕ). given (walk.stop t.stop k)) (sym (ap (λ (x : Listed). x.place) is)),
      );
    }

pub rows_round_trip : RowsRoundTrip
rows_round_trip rows values room room₁ room' behind table table' place w c r stand valid short fits all enough writes closing lists =
    let options : List Opt = named rows values in
    let bytes : List ℕ = encode_all options in
    let area : List ℕ = bytes ++ behind in
    let within : place ≤ length room = omega arith in
    let made = writes_all options room place valid short fits in
    let rowed = all_rowed 0 rows values room place _ stand valid short within made in
    let outcome = rows_decide rows values room place short within ∙ rowed.written in
    let w-is = writes.told ∙ ap (written_rows place) outcome in
    let at : w.place ≡ rowed.to = ap (λ (x : WrittenRows). x.place) w-is in
    let in_room : room₁ ≡ rowed.room₁ = writes.left ∙ ap (λ (o : Outcome). room_of o room) outcome in
    let closes = closes_so rowed.room₁ rowed.to _ _ rowed.closes in
    let back = walks_all options behind most_bytes valid (lit≤ tt) all in
    let listed =
    rows_are_listed area table table' r all (omega (arith, enough, ap (λ (l : rfc.Listing). length l.options) back)) lists in
    let ending = sym listed.last.2 ∙ ap (λ (l : rfc.Listing). l.ending) back in
    let is_end : listed.last.0 ≡ walk.end = cc in
    let is-there : r.place ≡ length bytes = cc in
    let stops = listed.last.1 ∙ ap boundary.stop_number is_end in
    let count = listed.count ∙ ap (λ (l : rfc.Listing). length l.options) back in
    record {
      all_written = (ap (λ (x : WrittenRows). x.refused) w-is, ap (λ (x : WrittenRows). x.rows) w-is ∙ (omega arith));
      closed =
          closing.told
          ∙ (λ i. boundary.written_of (at i) (answer_to (close (in_room i) (at i)) (in_room i) (at i)))
          ∙ ap (boundary.written_of rowed.to) closes.0;
      left = closing.left ∙ (λ i. room_after (close (in_room i) (at i)) (in_room i) (at i)) ∙ closes.1;
      listed = λ i. record { refused = listed.refused i; stop = stops i; rows = count i; place = is-there i };
      told = subst (λ (l : rfc.Listing). TellAll area table' l.options) back listed.rows;
    }
