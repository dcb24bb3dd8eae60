-- The words of a listing in RFC 3396's reading that no other listing has, letter by letter, as ASCII.
-- Assumes nothing.
use Rattle.std.specs.Prelude.{ℕ, List, [], ◌∷◌}

abbrev a : ℕ
a = 97

abbrev c : ℕ
c = 99

abbrev d : ℕ
d = 100

abbrev e : ℕ
e = 101

abbrev f : ℕ
f = 102

abbrev i : ℕ
i = 105

abbrev l : ℕ
l = 108

abbrev m : ℕ
m = 109

abbrev n : ℕ
n = 110

abbrev o : ℕ
o = 111

abbrev p : ℕ
p = 112

abbrev s : ℕ
s = 115

abbrev t : ℕ
t = 116

-- a space
abbrev sp : ℕ
sp = 32

abbrev pub fields : List ℕ
fields = f ∷ i ∷ e ∷ l ∷ d ∷ s ∷ []

abbrev pub options : List ℕ
options = sp ∷ o ∷ p ∷ t ∷ i ∷ o ∷ n ∷ s ∷ []

abbrev pub file : List ℕ
file = sp ∷ f ∷ i ∷ l ∷ e ∷ []

abbrev pub sname : List ℕ
sname = sp ∷ s ∷ n ∷ a ∷ m ∷ e ∷ []

abbrev pub codes : List ℕ
codes = c ∷ o ∷ d ∷ e ∷ s ∷ sp ∷ []
