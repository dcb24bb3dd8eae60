-- The laws of `specs/Added.antt`: texts that a pen adds one behind the other.
-- Assumes nothing.
use Rattle.std.proofs.Common.{◌≡◌, refl, sym, ◌∙◌, List, [], ◌∷◌, ◌++◌, ℕ, ◌+◌, ◌<◌, length, take, get_or}
use Rattle.std.proofs.lemmas.List.{take_more}
use Rattle.pen.specs.declared.Pen.{Pen}
use Rattle.pen.specs.Added.{state, Put, Added}
use Rattle.pen.proofs.Adding as state

-- no text, a text of one character, and a text behind a text
pub nothing : (p : Pen) → Added p p []
nothing p = record { same = refl; added = state.nothing (state p) }

pub one : {p q : Pen} {character : ℕ} → Put p q character → Added p q (character ∷ [])
one {p} {character = character} w = record { same = w.same; added = w.added ∙ state.one (state p) character }

pub both : {p q r : Pen} {a b : List ℕ} → Added p q a → Added q r b → Added p r (a ++ b)
both {p} {a = a} {b = b} u v = record { same = v.same ∙ u.same; added = state.both (state p) a b u.added v.added }

-- the same text by another name
pub renamed : {p q : Pen} {a b : List ℕ} → Added p q a → a ≡ b → Added p q b
renamed w e = rw (sym e) w

-- a text character by character: one more
pub one_more : {p q r : Pen} (word : List ℕ) (i : ℕ) → i < length word → Added p q (take i word) → Put q r (get_or word i 0)
    → Added p r (take (i + 1) word)
one_more word i h u v = renamed (both u (one v)) (sym (take_more word i 0 h))
