-- The natural logarithm, as document 01's stand-in says: ln of 2^k t with 3/4 ≤ t < 3/2 is k LN2 + (t - 1) R_C(((1 + t)/2)², t); ln of either zero is -∞, ln ∞ is ∞,
-- otherwise NaN. Definitions only.
use Rattle.std.specs.Prelude.{ℕ, ◌-◌, ◌*◌, ◌^◌, true, false, cond, ℤ, pos, ◌+ℤ◌, leb, eqb, Float}
use Rattle.std.specs.Float.{nan, inf, fin, binary64}
use Rattle.std.specs.Float.Ieee.{size, minus, of_int}
use Rattle.doubles.specs.Rounded.{◌⊕◌, ◌⊖◌, ◌⊗◌, ◌⊘◌}
use Rattle.doubles.specs.Constants.{1·0, 2·0, LN2}
use Rattle.carlson.specs.Rc.{rc_value}

-- j such that t = m / 2^j lies from 3/4 up and below 3/2 (shown in special_laws, `ArgumentsOfRc`): the number of m's binary digits, or one less
abbrev pub binary_places : ℕ → ℕ
binary_places m = cond (leb (3 * 2 ^ size m) (4 * m)) (size m) (size m - 1)

-- of m 2^e: t and k
abbrev pub fraction : ℕ → Float
fraction m = fin false m (minus 0 (binary_places m))

abbrev pub exponent : ℕ → ℤ → ℤ
exponent m e = e +ℤ pos (binary_places m)

-- h = (1 + t)/2
abbrev pub midpoint : Float → Float
midpoint t = (1·0 ⊕ t) ⊘ 2·0

-- over any R_C, so that special_laws (`AtMostSix`) can say at which arguments it is used
module _ (R_C : Float → Float → Float) where
  unfoldable pub ln_at : Float → Float → Float
  ln_at k t = k ⊗ LN2 ⊕ (t ⊖ 1·0) ⊗ R_C (midpoint t ⊗ midpoint t) t

  unfoldable pub ln_by : Float → Float
  ln_by nan = nan
  ln_by (inf s) = cond s nan (inf false)
  ln_by (fin s m e) = cond (eqb m 0) (inf true) (cond s nan (ln_at (of_int binary64 (exponent m e)) (fraction m)))

unfoldable pub ln : Float → Float
ln x = ln_by rc_value x
