-- What an exported call takes, returns and writes, as lists of numbers, from the public call's answer. Definitions only.
use Rattle.std.specs.Prelude.{◌≡◌, List, [], ◌∷◌, ℕ, Float, Ok, Err}
use Rattle.refusals.specs.Numbers.{number_of, values_of}
use Rattle.refusals.specs.Answer.{Answer}
use Rattle.refusals.specs.Causes.{Cause}
use Rattle.rings.specs.declared.Complete.{Complete}
use Rattle.rings.specs.declared.RingAverage.{RingAverage}
use Rattle.legendre.specs.declared.Rule.{Rule}
use Rattle.sheet.specs.declared.Accepted.{Accepted}
use Rattle.obj.specs.declared.Counts.{Counts}
pub use Rattle.newtonian.specs.Numbers.{vector_of, hessian_of}

-- ---- the numbers of an answer

abbrev pub itself : {T : Type 0} → T → T
itself x = x

-- K and E
abbrev pub complete_numbers : Complete → List Float
complete_numbers c = c.k ∷ c.e ∷ []

-- the average, and its derivatives by ρ and z
abbrev pub ring_numbers : RingAverage → List Float
ring_numbers a = a.v ∷ a.drho ∷ a.dz ∷ []

-- kind and S
abbrev pub accepted_numbers : Accepted → List ℕ
accepted_numbers a = a.kind ∷ a.stations ∷ []

-- V and F
abbrev pub count_numbers : Counts → List ℕ
count_numbers c = c.vertices ∷ c.faces ∷ []

abbrev pub nodes_of : Rule → List Float
nodes_of rule = rule.nodes

abbrev pub weights_of : Rule → List Float
weights_of rule = rule.weights

-- ---- what a call returns and writes

-- 0 for an answer, else the refusal's number
abbrev pub returned : {S : Type 0} → Answer S → ℕ
returned (Ok v) = 0
returned (Err r) = number_of r

-- the answer's numbers; what stood there, under a refusal
abbrev pub written : {S T : Type 0} → (S → T) → Answer S → T → T
written numbers (Ok v) before = numbers v
written numbers (Err r) before = before

-- the first two of a list, with zeros for those that it does not have
abbrev pub two : List ℕ → List ℕ
two [] = 0 ∷ 0 ∷ []
two (v ∷ []) = v ∷ 0 ∷ []
two (v ∷ w ∷ vs) = v ∷ w ∷ []

-- a refusal's values, a face, an edge's from and to, or a station, with zeros after them; zeros after an answer
abbrev pub values_after : {S : Type 0} → Answer S → List ℕ
values_after (Ok v) = 0 ∷ 0 ∷ []
values_after (Err r) = two (values_of r)

-- ---- a call's contract

-- for the answer a the call returns r, and what was lent as `before` is `after`
pub record Gives {S T : Type 0} (numbers : S → T) (a : Answer S) (r : ℕ) (before after : T) : Type 0 where
  pub number : r ≡ returned a
  pub out : after ≡ written numbers a before

-- the same of a call that writes a refusal's values too
pub record GivesValues {S T : Type 0} (numbers : S → T) (a : Answer S) (r : ℕ) (before after : T) (vs : List ℕ) : Type 0 where
  pub number : r ≡ returned a
  pub out : after ≡ written numbers a before
  pub values : vs ≡ values_after a

-- the same of a call whose answer is whether it refuses: it returns 0 or the refusal's number, and writes the refusal's values
pub record GivesCause (c : Cause) (r : ℕ) (vs : List ℕ) : Type 0 where
  pub number : r ≡ returned c
  pub values : vs ≡ values_after c
