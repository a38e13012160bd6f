-- The average of 1/|x - x'| over a ring of radius R in the plane z = 0, centred on the axis, seen from (ρ, z), and its gradient: (2/π) K(m)/√s with s = (R + ρ)² +
-- z² and m = 4Rρ/s. ∂/∂z is by Zypman (Am. J. Phys. 74, 295 (2006)), ∂/∂ρ by cel, or by a series near the axis. With the roundings in the order of the Rust; the
-- powers 3/2, 5/2 and 9/2 are document 01's products with a root. Definitions only.
use Rattle.std.specs.Prelude.{Bool, ◌&&◌, cond, Float}
use Rattle.std.specs.Float.Ieee.{neg, lt, le, eq}
use Rattle.doubles.specs.Rounded.{◌⊕◌, ◌⊖◌, ◌⊗◌, ◌⊘◌}
use Rattle.doubles.specs.Constants.{0·0, 0·5, 1·0, 2·0, 4·0, 9·0, 24·0, π}
use Rattle.doubles.specs.Magnitude.{within_limits}
use Rattle.roots.specs.Root.{Root}
use Rattle.refusals.specs.Causes.{or_else, unless}
use Rattle.std.specs.Prelude.{Ok}
use Rattle.refusals.specs.Answer.{Answer, or_answer}
use Rattle.refusals.specs.declared.Refusal.TheVariants.{OutOfLimits, OutsideDomain}
use Rattle.rings.specs.Constants.{9e-8, 16·0, 72·0}
use Rattle.rings.specs.Elliptic.{elliptic}
use Rattle.special_bulirsch.specs.Bulirsch.{cel_of}
use Rattle.rings.specs.declared.RingAverage.{RingAverage}

-- s = (R + ρ)² + z² and d = (R - ρ)² + z², the squares of the distances to the ring's farthest and nearest points
abbrev pub far_squared : Float → Float → Float → Float
far_squared R ρ z = (R ⊕ ρ) ⊗ (R ⊕ ρ) ⊕ z ⊗ z

abbrev pub near_squared : Float → Float → Float → Float
near_squared R ρ z = (R ⊖ ρ) ⊗ (R ⊖ ρ) ⊕ z ⊗ z

-- m = 4Rρ/s, the parameter of K and E
abbrev pub ring_parameter : Float → Float → Float → Float
ring_parameter R ρ z = 4·0 ⊗ R ⊗ ρ ⊘ far_squared R ρ z

-- u^(3/2), u^(5/2) and u^(9/2)
infixl 75 ◌^1·5 ◌^2·5 ◌^4·5
abbrev pub ◌^1·5 : Float → Float
u ^1·5 = u ⊗ Root u

abbrev pub ◌^2·5 : Float → Float
u ^2·5 = u ⊗ u ⊗ Root u

abbrev pub ◌^4·5 : Float → Float
u ^4·5 = u ⊗ u ⊗ (u ⊗ u) ⊗ Root u

-- near the axis: ρ(R² - 2z²)/2 / u^(5/2) - ρ³/16 (-24z⁴ + 72z²R² - 9R⁴) / u^(9/2), with u = R² + z²
unfoldable pub near_axis : Float → Float → Float → Float
near_axis R ρ z =
    let R² = R ⊗ R in
    let z² = z ⊗ z in
    let u = R² ⊕ z² in
    0·5 ⊗ ρ ⊗ (R² ⊖ 2·0 ⊗ z²) ⊘ u ^2·5
    ⊖ ρ ⊗ ρ ⊗ ρ ⊘ 16·0 ⊗ (neg 24·0 ⊗ z² ⊗ z² ⊕ 72·0 ⊗ z² ⊗ R² ⊖ 9·0 ⊗ R² ⊗ R²) ⊘ u ^4·5

-- elsewhere: -2/(π s^(3/2)) cel(k_c, k_c², ρ + R, ρ - R), with k_c = √(d/s)
unfoldable pub off_axis : Float → Float → Float → Float
off_axis R ρ z =
    let s = far_squared R ρ z in
    let kc = Root (near_squared R ρ z ⊘ s) in
    neg 2·0 ⊘ (π ⊗ s ^1·5) ⊗ cel_of kc (kc ⊗ kc) (ρ ⊕ R) (ρ ⊖ R)

-- ∂/∂ρ, which is zero on the axis
unfoldable pub ∂ρ : Float → Float → Float → Float
∂ρ R ρ z =
    cond (eq ρ 0·0) 0·0
    (cond (lt (ρ ⊗ ρ) (9e-8 ⊗ (R ⊗ R ⊕ z ⊗ z))) (near_axis R ρ z)
    (off_axis R ρ z))

-- (2/π) K/√s, ∂/∂ρ, and ∂/∂z = -(2/π) z E/(√s d)
unfoldable pub ring_at : Float → Float → Float → RingAverage
ring_at R ρ z =
    let s = far_squared R ρ z in
    let c = elliptic (ring_parameter R ρ z) in
    record { v = 2·0 ⊘ π ⊗ c.k ⊘ Root s; drho = ∂ρ R ρ z; dz = neg 2·0 ⊘ π ⊗ z ⊗ c.e ⊘ (Root s ⊗ near_squared R ρ z) }

-- R > 0, ρ ≥ 0, and d > 0 and m < 1 as computed
unfoldable pub ring_in_domain : Float → Float → Float → Bool
ring_in_domain R ρ z = lt 0·0 R && le 0·0 ρ && lt 0·0 (near_squared R ρ z) && lt (ring_parameter R ρ z) 1·0

unfoldable pub ring_within_limits : Float → Float → Float → Bool
ring_within_limits R ρ z = within_limits R && within_limits ρ && within_limits z

-- the public call, refused by 3, and by 14 outside the domain
unfoldable pub ring : Float → Float → Float → Answer RingAverage
ring R ρ z =
    or_answer (or_else (unless (ring_within_limits R ρ z) OutOfLimits) (unless (ring_in_domain R ρ z) OutsideDomain)) (Ok (ring_at R ρ z))
