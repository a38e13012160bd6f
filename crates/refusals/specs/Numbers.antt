-- Document 01's table of refusals, with the numbers that document 02's orders add: the number of each, the values that it returns, and the place that `recheck` prints. Definitions only.
use Rattle.std.specs.Prelude.{List, [], ◌∷◌, ℕ}
use Rattle.refusals.specs.declared.Refusal.{Refusal}
use Rattle.refusals.specs.declared.Refusal.TheVariants.{Malformed, TooMany, OutOfLimits, NoSuchVertex, Flipped, Open, Degenerate, Inverted, TooThin, TooDeep, TooManyEdges, TooShort, NotFinite, OutsideDomain, TooManyRounds, WrongLength, WrongOrder, WrongMate, WrongVolume, WrongRow, WrongLine, TooManyDigits}

abbrev pub number_of : Refusal → ℕ
number_of Malformed = 1
number_of TooMany = 2
number_of OutOfLimits = 3
number_of (NoSuchVertex face) = 4
number_of (Flipped from to) = 5
number_of (Open from to) = 6
number_of (Degenerate face) = 7
number_of Inverted = 8
number_of TooThin = 9
number_of (TooDeep station) = 10
number_of (TooManyEdges station) = 11
number_of TooShort = 12
number_of (NotFinite station) = 13
number_of OutsideDomain = 14
number_of TooManyRounds = 15
number_of WrongLength = 16
number_of WrongOrder = 17
number_of WrongMate = 18
number_of WrongVolume = 19
number_of (WrongRow station) = 20
number_of WrongLine = 21
number_of TooManyDigits = 22

-- a face, the two ends of an edge, or a station, where the table returns more than the number
abbrev pub values_of : Refusal → List ℕ
values_of Malformed = []
values_of TooMany = []
values_of OutOfLimits = []
values_of (NoSuchVertex face) = face ∷ []
values_of (Flipped from to) = from ∷ to ∷ []
values_of (Open from to) = from ∷ to ∷ []
values_of (Degenerate face) = face ∷ []
values_of Inverted = []
values_of TooThin = []
values_of (TooDeep station) = station ∷ []
values_of (TooManyEdges station) = station ∷ []
values_of TooShort = []
values_of (NotFinite station) = station ∷ []
values_of OutsideDomain = []
values_of TooManyRounds = []
values_of WrongLength = []
values_of WrongOrder = []
values_of WrongMate = []
values_of WrongVolume = []
values_of (WrongRow station) = station ∷ []
-- each number of document 02 is returned alone
values_of WrongLine = []
values_of TooManyDigits = []

-- a face or a station stands alone; an edge is no place, and prints as 0
abbrev pub single_value : List ℕ → ℕ
single_value (v ∷ []) = v
single_value (v ∷ w ∷ vs) = 0
single_value [] = 0

abbrev pub place_of : Refusal → ℕ
place_of r = single_value (values_of r)
