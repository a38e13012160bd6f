-- What makes the table's n nodes and n weights a Gauss-Legendre rule on [-1, 1]: above all, for each k below 2 n the sum of weight * node ^ k is the integral of x ^ k,
-- to within `tolerance`. All of it is said of the doubles' exact values, as whole numbers over `scale`, and of exact fractions: nothing is rounded. Definitions only.
use Rattle.std.specs.Prelude.{◌≡◌, not, cond, ℕ, zero, suc, ◌+◌, ◌-◌, ◌*◌, ◌/◌, ◌%◌, ◌^◌, ◌<◌, eqb, ℤ, pos, neg_ℤ, nat_abs, ◌+ℤ◌, ◌-ℤ◌, ◌*ℤ◌, ◌<ℤ◌, ◌≤ℤ◌, Float}
use Rattle.std.proofs.Math.IntN.{pow}
use Rattle.std.specs.Int.Signed.{non_neg}
use Rattle.std.specs.Float.{nan, inf, fin}
use Rattle.std.specs.Float.Ieee.{up, down}
use Rattle.std.specs.Float.Ieee.Exact.{HasValue}
use Rattle.legendre.specs.GaussLegendre.{node, weight}

-- ---- doubles as whole numbers

-- the nodes and weights are whole numbers over it
abbrev pub scale : ℕ
scale = 2 ^ 60

-- x * scale, cut to a whole number. The double `fin s m e` is ± m * 2 ^ e, and 2 ^ e is the fraction up e / down e.
unfoldable pub scaled : Float → ℤ
scaled nan = pos 0
scaled (inf s) = pos 0
scaled (fin s m e) = let z = m * up e * scale / down e in cond s (neg_ℤ (pos z)) (pos z)

-- x is exactly z / scale: it is finite, has z's sign, and is |z| / scale in size. So where z is `scaled x`, nothing was cut.
abbrev pub Exactly : Float → ℤ → Type 0
Exactly x z = HasValue x (not (non_neg z)) (nat_abs z) scale

unfoldable pub scaled_node : ℕ → ℕ → ℤ
scaled_node n i = scaled (node n i)

unfoldable pub scaled_weight : ℕ → ℕ → ℤ
scaled_weight n i = scaled (weight n i)

-- ---- exact fractions

-- numerator / denominator, the denominator above 0
pub record Fraction : Type 0 where
  pub numerator : ℤ
  pub denominator : ℕ

-- |p - q| ≤ t, multiplied by the three denominators, so that nothing is divided
abbrev pub Within : Fraction → Fraction → Fraction → Type 0
Within t p q =
    pos (nat_abs (p.numerator *ℤ pos q.denominator -ℤ q.numerator *ℤ pos p.denominator) * t.denominator)
    ≤ℤ (t.numerator *ℤ pos (p.denominator * q.denominator))

-- 2 ^ -40
abbrev pub tolerance : Fraction
tolerance = record { numerator = pos 1; denominator = 2 ^ 40 }

-- ---- moments and integrals

-- f 0 + f 1 + .. + f (n - 1)
unfoldable pub sum_of : ℕ → (ℕ → ℤ) → ℤ
sum_of zero f = pos 0
sum_of (suc n) f = sum_of n f +ℤ f n

-- the sum of weight * node ^ k over the n nodes. Each term is a product of k + 1 scaled numbers.
unfoldable pub moment : ℕ → ℕ → Fraction
moment n k = record { numerator = sum_of n (λ i. scaled_weight n i *ℤ pow (scaled_node n i) k); denominator = scale ^ (k + 1) }

-- the integral of x ^ k over [-1, 1]: 2 / (k + 1) for k even, 0 for k odd
unfoldable pub integral : ℕ → Fraction
integral k = cond (eqb (k % 2) 0) (record { numerator = pos 2; denominator = k + 1 }) (record { numerator = pos 0; denominator = 1 })

-- ---- the rule

pub record IsGaussLegendre (n : ℕ) : Type 0 where
  -- the scaled numbers are the doubles: the scaling loses nothing
  pub exact_nodes : (i : ℕ) → i < n → Exactly (node n i) (scaled_node n i)
  pub exact_weights : (i : ℕ) → i < n → Exactly (weight n i) (scaled_weight n i)
  pub ascending : (i : ℕ) → i + 1 < n → scaled_node n i <ℤ scaled_node n (i + 1)
  pub mirrored : (i : ℕ) → i < n → scaled_node n (n - 1 - i) ≡ neg_ℤ (scaled_node n i)
  pub positive_weights : (i : ℕ) → i < n → pos 0 <ℤ scaled_weight n i
  pub moments : (k : ℕ) → k < 2 * n → Within tolerance (moment n k) (integral k)
