-- The words of a listing, letter by letter, as ASCII.
-- Assumes nothing.
use Rattle.std.specs.Prelude.{ℕ, List, [], ◌∷◌}

abbrev a : ℕ
a = 97

abbrev c : ℕ
c = 99

abbrev d : ℕ
d = 100

abbrev e : ℕ
e = 101

abbrev f : ℕ
f = 102

abbrev g : ℕ
g = 103

abbrev h : ℕ
h = 104

abbrev i : ℕ
i = 105

abbrev k : ℕ
k = 107

abbrev l : ℕ
l = 108

abbrev m : ℕ
m = 109

abbrev n : ℕ
n = 110

abbrev o : ℕ
o = 111

abbrev p : ℕ
p = 112

abbrev r : ℕ
r = 114

abbrev s : ℕ
s = 115

abbrev t : ℕ
t = 116

abbrev u : ℕ
u = 117

abbrev v : ℕ
v = 118

abbrev w : ℕ
w = 119

abbrev x : ℕ
x = 120

abbrev y : ℕ
y = 121

-- a space
abbrev sp : ℕ
sp = 32

abbrev pub message : List ℕ
message = m ∷ e ∷ s ∷ s ∷ a ∷ g ∷ e ∷ sp ∷ []

abbrev pub op : List ℕ
op = sp ∷ o ∷ p ∷ sp ∷ []

abbrev pub htype : List ℕ
htype = sp ∷ h ∷ t ∷ y ∷ p ∷ e ∷ sp ∷ []

abbrev pub hlen : List ℕ
hlen = sp ∷ h ∷ l ∷ e ∷ n ∷ sp ∷ []

abbrev pub xid : List ℕ
xid = sp ∷ x ∷ i ∷ d ∷ sp ∷ []

abbrev pub chaddr : List ℕ
chaddr = c ∷ h ∷ a ∷ d ∷ d ∷ r ∷ []

abbrev pub spill : List ℕ
spill = sp ∷ s ∷ p ∷ i ∷ l ∷ l ∷ []

abbrev pub option : List ℕ
option = o ∷ p ∷ t ∷ i ∷ o ∷ n ∷ sp ∷ []

abbrev pub kind : List ℕ
kind = sp ∷ k ∷ i ∷ n ∷ d ∷ sp ∷ []

abbrev pub parts : List ℕ
parts = sp ∷ p ∷ a ∷ r ∷ t ∷ s ∷ sp ∷ []

abbrev pub value : List ℕ
value = sp ∷ v ∷ a ∷ l ∷ u ∷ e ∷ []

abbrev pub refused : List ℕ
refused = r ∷ e ∷ f ∷ u ∷ s ∷ e ∷ d ∷ sp ∷ []

abbrev pub stop_out : List ℕ
stop_out = s ∷ t ∷ o ∷ p ∷ sp ∷ o ∷ u ∷ t ∷ sp ∷ []

abbrev pub stop_end : List ℕ
stop_end = s ∷ t ∷ o ∷ p ∷ sp ∷ e ∷ n ∷ d ∷ sp ∷ []

abbrev pub stop_cut_length : List ℕ
stop_cut_length = s ∷ t ∷ o ∷ p ∷ sp ∷ c ∷ u ∷ t ∷ sp ∷ l ∷ e ∷ n ∷ g ∷ t ∷ h ∷ sp ∷ []

abbrev pub stop_cut_value : List ℕ
stop_cut_value = s ∷ t ∷ o ∷ p ∷ sp ∷ c ∷ u ∷ t ∷ sp ∷ v ∷ a ∷ l ∷ u ∷ e ∷ sp ∷ []

abbrev pub stop_cut_continuation : List ℕ
stop_cut_continuation = s ∷ t ∷ o ∷ p ∷ sp ∷ c ∷ u ∷ t ∷ sp ∷ c ∷ o ∷ n ∷ t ∷ i ∷ n ∷ u ∷ a ∷ t ∷ i ∷ o ∷ n ∷ sp ∷ []

abbrev pub magic_wrong : List ℕ
magic_wrong = m ∷ a ∷ g ∷ i ∷ c ∷ sp ∷ w ∷ r ∷ o ∷ n ∷ g ∷ []

abbrev pub too_long : List ℕ
too_long = t ∷ o ∷ o ∷ sp ∷ l ∷ o ∷ n ∷ g ∷ []

-- the end of a line
abbrev pub newline : List ℕ
newline = 10 ∷ []
