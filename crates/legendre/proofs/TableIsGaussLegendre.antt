-- States: `table-is-gauss_legendre`: each order of the table, from 1 to 16, is a Gauss-Legendre rule (`IsGaussLegendre`), by one test of the whole table, which antt
-- computes, and the lemma that turns it into the rule's facts; `denominators`: the fractions that it compares have denominators above 0; `entries-not-nan`: no entry
-- is a NaN. Assumes nothing.
use Rattle.std.specs.Prelude.{◌≡◌, Bool, true, false, not, cond, List, [], ◌∷◌, ℕ, ◌+◌, ◌-◌, ◌*◌, ◌%◌, ◌<◌, ◌≤◌, T, eqb, pos, neg_ℤ, length, get_or}
use Rattle.std.proofs.Common.{subst, arith, lit≤}
use Rattle.std.proofs.Math.Nat.{one-le-pow}
use Rattle.std.proofs.Math.IntN.{pow, one}
use Rattle.std.specs.Int.Signed.{lt_z, lt_z_yes}
use Rattle.std.specs.Int.Count.{count_trailing_zeros}
use Rattle.std.specs.Float.{binary64}
use Rattle.std.specs.Float.Ieee.{of_bits, of_fields, odd, nan_bits}
use Rattle.legendre.specs.Table.{table}
use Rattle.legendre.specs.GaussLegendre.{max_order, entry, node, weight}
use Rattle.legendre.specs.IsGaussLegendre.{scale, scaled, scaled_node, scaled_weight, Fraction, tolerance, sum_of, moment, integral, IsGaussLegendre}
use Rattle.legendre.specs.Tests.{each, each_at, all, all-at, exactly, exactly-is, equal, equal_is, is_within, within-is}

-- ---- the fields of `IsGaussLegendre n`, as tests

exact_node : ℕ → ℕ → Bool
exact_node n i = exactly (node n i) (scaled_node n i)

exact_weight : ℕ → ℕ → Bool
exact_weight n i = exactly (weight n i) (scaled_weight n i)

nodes_ascend : ℕ → ℕ → Bool
nodes_ascend n i = lt_z (scaled_node n i) (scaled_node n (i + 1))

nodes_mirror : ℕ → ℕ → Bool
nodes_mirror n i = equal (scaled_node n (n - 1 - i)) (neg_ℤ (scaled_node n i))

weights_above_zero : ℕ → ℕ → Bool
weights_above_zero n i = lt_z (pos 0) (scaled_weight n i)

integrates : ℕ → ℕ → Bool
integrates n k = is_within tolerance (moment n k) (integral k)

tests : ℕ → List Bool
unfolding exact_node exact_weight nodes_ascend nodes_mirror weights_above_zero integrates
tests n =
    each n (exact_node n) ∷ each n (exact_weight n) ∷ each (n - 1) (nodes_ascend n) ∷ each n (nodes_mirror n) ∷ each n (weights_above_zero n) ∷
    each (2 * n) (integrates n) ∷ []

-- the orders are counted from 1
passes : ℕ → Bool
unfolding tests
passes m = all (tests (m + 1))

computed : T (each max_order passes)
unfolding passes tests exact_node exact_weight nodes_ascend nodes_mirror weights_above_zero integrates exactly equal is_within table entry node weight scaled scaled_node scaled_weight sum_of moment integral of_bits of_fields odd count_trailing_zeros pow one
computed = tt

-- ---- the theorem

from_tests : (n : ℕ) → T (all (tests n)) → IsGaussLegendre n
unfolding tests exact_node exact_weight nodes_ascend nodes_mirror weights_above_zero integrates
from_tests n h =
    let t : (j : ℕ) → T (get_or (tests n) j true) = all-at (tests n) h in
    record {
      exact_nodes = λ i l. exactly-is (node n i) (scaled_node n i) (each_at n (exact_node n) (t 0) i l);
      exact_weights = λ i l. exactly-is (weight n i) (scaled_weight n i) (each_at n (exact_weight n) (t 1) i l);
      ascending = λ i l. lt_z_yes (each_at (n - 1) (nodes_ascend n) (t 2) i (omega arith));
      mirrored = λ i l. equal_is (scaled_node n (n - 1 - i)) (neg_ℤ (scaled_node n i)) (each_at n (nodes_mirror n) (t 3) i l);
      positive_weights = λ i l. lt_z_yes (each_at n (weights_above_zero n) (t 4) i l);
      moments = λ k l. within-is tolerance (moment n k) (integral k) (each_at (2 * n) (integrates n) (t 5) k l);
    }

-- there is no order 0
pub table-is-gauss_legendre : (n : ℕ) → 1 ≤ n → n ≤ max_order → IsGaussLegendre n
unfolding passes
table-is-gauss_legendre n p h =
    let e : n - 1 + 1 ≡ n = omega arith in
    subst IsGaussLegendre e (from_tests (n - 1 + 1) (each_at max_order passes computed (n - 1) (omega arith)))

-- the fractions that it compares have denominators above 0
pub denominators : (n k : ℕ) → (0 < (moment n k).denominator) × (0 < (integral k).denominator) × (0 < tolerance.denominator)
unfolding moment integral
denominators n k = (one-le-pow (k + 1) scale (lit≤ tt), either (eqb (k % 2) 0), lit≤ tt)
  where
    either : (b : Bool) → 0 < (cond {A = Fraction} b (record { numerator = pos 2; denominator = k + 1 }) (record { numerator = pos 0; denominator = 1 })).denominator
    either true = omega arith
    either false = omega arith

-- ---- no entry is a NaN

real : ℕ → Bool
real j = not (nan_bits binary64 (get_or table j 0))

computed_real : T (each (length table) real)
unfolding real table nan_bits
computed_real = tt

pub entries-not-nan : (j : ℕ) → j < length table → T (not (nan_bits binary64 (get_or table j 0)))
unfolding real
entries-not-nan = each_at (length table) real computed_real
