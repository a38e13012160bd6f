-- What `prism` answers: the field of the rectangular prism from min to max at a station, or document 01's refusals 3, 9 and 10. p is the station; lo and hi are
-- the corners min and max. Definitions only.
use Rattle.std.specs.Prelude.{ℕ, zero, suc, Bool, ◌&&◌, Float}
use Rattle.std.specs.Float.Ieee.{le}
use Rattle.doubles.specs.Rounded.{◌⊖◌, ◌⊗◌}
use Rattle.doubles.specs.Constants.{10⁻⁶}
use Rattle.refusals.specs.Causes.{or_else, unless}
use Rattle.std.specs.Prelude.{Ok, Err}
use Rattle.refusals.specs.Answer.{Answer, or_answer}
use Rattle.refusals.specs.Causes.{Cause}
use Rattle.refusals.specs.declared.Refusal.TheVariants.{OutOfLimits, TooThin, TooDeep}
use Rattle.newtonian.specs.Vectors.{add_fields, vector_within_limits}
use Rattle.newtonian.specs.declared.Vector.{Vector}
use Rattle.newtonian.specs.declared.Newtonian.{Newtonian}
use Rattle.prism_corner_sums.specs.declared.Bounds.{Bounds}
use Rattle.prism_pieces.specs.declared.AxisRule.{AxisRule}
use Rattle.prism_pieces.specs.declared.AxisRule.TheVariants.{FirstOfEquals}
use Rattle.prism_pieces.specs.declared.Piece.{Piece}
use Rattle.prism_pieces.specs.declared.Piece.TheVariants.{Whole, Halves}
use Rattle.prism_pieces.specs.Choice.{piece_of}

-- ---- the pieces

-- the sum of the lower and the upper half's fields, or the first refusal among them
unfoldable pub join : Answer Newtonian → Answer Newtonian → Answer Newtonian
join (Err r) b = Err r
join (Ok f) (Err r) = Err r
join (Ok f) (Ok g) = Ok (add_fields f g)

-- a piece's field, or what becomes of its lower and its upper half
abbrev pub field_or : Piece → (Bounds → Bounds → Answer Newtonian) → Answer Newtonian
field_or (Whole f) halves = Ok f
field_or (Halves lower upper) halves = halves lower upper

-- The field of the prism where at most n bisections are left. One more is refused by 10, which names the station by its number i.
unfoldable pub pieces : AxisRule → ℕ → ℕ → Vector → Vector → Vector → Answer Newtonian
pieces rule i zero p lo hi = field_or (piece_of rule p lo hi) (λ lower upper. Err (TooDeep i))
pieces rule i (suc n) p lo hi =
    field_or (piece_of rule p lo hi) (λ lower upper. join (pieces rule i n p lower.lo lower.hi) (pieces rule i n p upper.lo upper.hi))

-- document 01: the depth of the bisection
abbrev pub max_bisections : ℕ
max_bisections = 32

-- the field at the station p of number i, by a rule for the longest axis
unfoldable pub prism_at : AxisRule → ℕ → Vector → Vector → Vector → Answer Newtonian
prism_at rule i p lo hi = pieces rule i max_bisections p lo hi

-- ---- the public call

unfoldable pub numbers_within_limits : Vector → Vector → Vector → Bool
numbers_within_limits p lo hi = vector_within_limits p && (vector_within_limits lo && vector_within_limits hi)

-- document 01: a side below this is refused by 9
abbrev pub min_side : Float
min_side = 10⁻⁶

-- the side from lo to hi, as rounded, is not below `min_side`
unfoldable pub side_within_limits : Float → Float → Bool
side_within_limits lo hi = le min_side (hi ⊖ lo)

unfoldable pub sides_within_limits : Vector → Vector → Bool
sides_within_limits lo hi = side_within_limits lo.x hi.x && (side_within_limits lo.y hi.y && side_within_limits lo.z hi.z)

-- the three sides, multiplied left to right
unfoldable pub prism_volume : Vector → Vector → Float
prism_volume lo hi = (hi.x ⊖ lo.x) ⊗ (hi.y ⊖ lo.y) ⊗ (hi.z ⊖ lo.z)

-- the causes before the field: 3, then 9
unfoldable pub cause_of : Vector → Vector → Vector → Cause
cause_of p lo hi = or_else (unless (numbers_within_limits p lo hi) OutOfLimits) (unless (sides_within_limits lo hi) TooThin)

-- 3, 9, then the field or 10. A single point has the station number 0, and by document 02's order 4 the first of equal longest axes is halved.
unfoldable pub prism : Vector → Vector → Vector → Answer Newtonian
prism p lo hi = or_answer (cause_of p lo hi) (prism_at FirstOfEquals 0 p lo hi)
