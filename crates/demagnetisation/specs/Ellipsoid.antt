-- The demagnetising factors of a uniformly magnetised ellipsoid with semi-axes a, b, c: N_c = (abc/3) R_D(a², b², c²), and the others by permutation. They are 1/3
-- each for a sphere, 0.1736 along the long axis of a 2:1 prolate spheroid and 0.9845 across a 100:1 disc (Chen, Brug & Goldfarb 1991, Table I; Osborn 1945). The
-- field inside is H = H₀ - N-as-M. With the roundings in the order of the Rust. Definitions only.
use Rattle.std.specs.Prelude.{Bool, ◌&&◌, Float}
use Rattle.std.specs.Float.Ieee.{lt}
use Rattle.doubles.specs.Rounded.{◌⊗◌, ◌⊘◌}
use Rattle.doubles.specs.Constants.{0·0, 3·0}
use Rattle.refusals.specs.Causes.{or_else, unless}
use Rattle.std.specs.Prelude.{Ok, Err}
use Rattle.refusals.specs.Answer.{Answer, or_answer}
use Rattle.refusals.specs.declared.Refusal.TheVariants.{OutOfLimits, OutsideDomain}
use Rattle.newtonian.specs.Vectors.{vector_within_limits}
use Rattle.newtonian.specs.declared.Vector.{Vector}
use Rattle.carlson.specs.Rc.{times_integral}
use Rattle.special_rf_rd.specs.Rd.{rd}

-- N along the semi-axis z of an ellipsoid with semi-axes x, y, z
unfoldable pub factor : Float → Float → Float → Answer Float
factor x y z = times_integral (x ⊗ y ⊗ z ⊘ 3·0) (rd (x ⊗ x) (y ⊗ y) (z ⊗ z))

-- three factors, or the first refusal among them
unfoldable pub together : Answer Float → Answer Float → Answer Float → Answer Vector
together (Ok x) (Ok y) (Ok z) = Ok (record { x = x; y = y; z = z })
together (Err r) b c = Err r
together (Ok x) (Err r) c = Err r
together (Ok x) (Ok y) (Err r) = Err r

unfoldable pub factors_of : Float → Float → Float → Answer Vector
factors_of a b c = together (factor b c a) (factor c a b) (factor a b c)

unfoldable pub all_positive : Float → Float → Float → Bool
all_positive a b c = lt 0·0 a && lt 0·0 b && lt 0·0 c

-- the public call, refused by 3, by 14 unless all three are above 0, and by R_D's 15
unfoldable pub ellipsoid_factors : Float → Float → Float → Answer Vector
ellipsoid_factors a b c =
    or_answer (or_else (unless (vector_within_limits (record { x = a; y = b; z = c })) OutOfLimits) (unless (all_positive a b c) OutsideDomain)) (factors_of a b c)
