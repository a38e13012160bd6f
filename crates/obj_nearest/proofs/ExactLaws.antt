-- The whole number of at most 15 digits and the power of ten that it is divided by are doubles, not rounded. States: `fifteen_digits_fit`: 10 ^ 15 is below 2 ^ 53, up to which every whole
-- number is a double, and so `digits_exact` and `power_exact`. Assumes nothing.
use Rattle.std.specs.Prelude.{false, ℕ, ◌^◌, ◌≤◌, ◌<◌, pos}
use Rattle.std.proofs.Common.{le_of_lt, lt_of_le_of_lt, lt_trans, zero-lt-suc, lit<}
use Rattle.std.proofs.Math.Nat.{pow-le-pow_right}
use Rattle.std.specs.Float.{binary64}
use Rattle.std.specs.Float.Ieee.{of_int}
use Rattle.std.specs.Float.Ieee.Exact.{HasValue}
use Rattle.std.specs.Float.Ieee.Back.{round_whole}

pub fifteen_digits_fit : 10 ^ 15 < 2 ^ 53
fifteen_digits_fit = lit< tt

pub digits_exact : (d : ℕ) → d < 10 ^ 15 → HasValue (of_int binary64 (pos d)) false d 1
unfolding of_int
digits_exact d h = round_whole binary64 false d (le_of_lt (lt_trans h fifteen_digits_fit))

pub power_exact : (k : ℕ) → k ≤ 14 → HasValue (of_int binary64 (pos (10 ^ k))) false (10 ^ k) 1
power_exact k h = digits_exact (10 ^ k) (lt_of_le_of_lt (pow-le-pow_right (zero-lt-suc 9) h) (lit< tt))
