-- What the contracts of the typed writers say, over the definitions of `Rattle.rfc.specs.Typed`.
-- Assumes nothing.
use Rattle.std.specs.Prelude.{ℕ, ◌≡◌, false, List, [], ◌∷◌, Result, Ok, Err}
use Rattle.rfc.specs.Numbers.{Answer, given, check, checked, most_part, too_long, past_end, no_code}
use Rattle.rfc.specs.Kinds.{kind_of}
use Rattle.rfc.specs.Values.{Content, not_text}
use Rattle.rfc.specs.Writing.{encode}
use Rattle.rfc.specs.Typed.{encode_kind, odd_pairs, write_value}
use Rattle.refusal.specs.declared.Refusal.{Refusal}
use Rattle.refusal.specs.Told.{says}
use Rattle.kinds.specs.declared.Kind.{Kind}
use Rattle.kinds.specs.Kind.{number_of}
use Rattle.encoder.specs.Written.{Wrote}

-- the kind of a code that may be written to at a place of a room: the checks of `Rattle.rfc.specs.Typed.code_checks` that ask for no kind
unfoldable pub kind_to_write : ℕ → List ℕ → ℕ → Answer ℕ
kind_to_write code room place =
    checked (check (too_long room) 2 ∷ check (past_end place room) 4 ∷ check (no_code code) 6 ∷ []) (given (kind_of code))

-- and what an answer of the code tells
abbrev pub kind_told : Result Kind Refusal → Answer ℕ
kind_told (Ok kind) = given (number_of kind)
kind_told (Err e) = says e

-- a value of this kind that holds this, written to a code at a place, from a room to a room', answers r
abbrev pub Writes : ℕ → Content → ℕ → List ℕ → List ℕ → ℕ → Result ℕ Refusal → Type 0
Writes kind content code room room' place r =
    Wrote (write_value code (record { kind = kind; content = content }) room place) room room' place r

-- Between the functions of the crate: bytes of a kind that need no check of their own, and whose parts are those of a byte value
pub record AsBytes (kind code : ℕ) (v : List ℕ) : Type 0 where
  pub paired : odd_pairs kind v ≡ false
  pub text : not_text kind v ≡ false
  pub alike : encode_kind kind code v ≡ encode most_part code v
