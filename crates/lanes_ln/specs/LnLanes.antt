-- ln of a normal number above zero, with no branch. Definitions only; the proofs show that this is `ln`.
use Rattle.std.specs.Prelude.{◌≡◌, true, cond, ℕ, ◌+◌, ◌-◌, ◌*◌, ◌/◌, ◌%◌, ◌^◌, T, Float}
use Rattle.std.specs.Float.{binary64}
use Rattle.std.specs.Float.Ieee.{minus, of_int, of_bits, to_bits, fits, le}
use Rattle.doubles.specs.Rounded.{◌⊗◌}
use Rattle.carlson.specs.Logarithm.{midpoint, ln_at}
use Rattle.lanes_rc.specs.LaneRounds.{rc_number}

-- the smallest normal number above zero, 2⁻¹⁰²², and the largest
abbrev pub smallest : Float
smallest = of_bits binary64 0x0010_0000_0000_0000

abbrev pub largest : Float
largest = of_bits binary64 0x7fef_ffff_ffff_ffff

-- x is a double, normal and above zero
pub record Normal (x : Float) : Type 0 where
  pub fit : T (fits binary64 x)
  pub low : le smallest x ≡ true
  pub high : le x largest ≡ true

-- the bit pattern of x, or of the largest number where x is not up to it: never a NaN's
unfoldable pub pattern_of : Float → ℕ
pattern_of x = to_bits binary64 (cond (le x largest) x largest)

-- 1 where a pattern's digits are those of 3/2 or more
abbrev pub half : ℕ → ℕ
half b = b % 2 ^ 52 / 2 ^ 51

-- of the pattern of 2^k t with 3/4 ≤ t < 3/2: k and t
unfoldable pub scale_of : ℕ → Float
scale_of b = of_int binary64 (minus (b / 2 ^ 52 + half b) 1023)

unfoldable pub fraction_of : ℕ → Float
fraction_of b = of_bits binary64 (b % 2 ^ 52 + 1023 * 2 ^ 52 - half b * 2 ^ 52)

-- the same of a number; and h², where h = (1 + t)/2
abbrev pub scale_at : Float → Float
scale_at x = scale_of (pattern_of x)

abbrev pub fraction_at : Float → Float
fraction_at x = fraction_of (pattern_of x)

abbrev pub square_at : Float → Float
square_at x = midpoint (fraction_at x) ⊗ midpoint (fraction_at x)

abbrev pub ln_lane : Float → Float
ln_lane x = ln_at rc_number (scale_at x) (fraction_at x)
