-- Neumaier's compensated summation, with the Rust's order of roundings, for the thirteen numbers of a field at once. Beside each sum runs the carry, what its roundings have
-- lost; a total is the sum with its carry. Definitions only.
use Rattle.std.specs.Prelude.{ℕ, ◌+◌, cond, List, get_or, set, replicate, Float}
use Rattle.std.specs.Float.{nan}
use Rattle.std.specs.Float.Ieee.{le}
use Rattle.doubles.specs.Rounded.{◌⊕◌, ◌⊖◌}
use Rattle.doubles.specs.Constants.{0·0}
use Rattle.doubles.specs.Magnitude.{abs}
use Rattle.newtonian.specs.Fold.{Fold}
use Rattle.newtonian.specs.Vectors.{field_size}
use Rattle.newtonian.specs.declared.Vector.{Vector}
use Rattle.newtonian.specs.declared.Newtonian.{Newtonian}
use Rattle.polyhedron_neumaier.specs.declared.Pair.{Pair}

-- a sum and its carry after one more term x: the loss is found from the larger of the two
unfoldable pub add_term : Pair → Float → Pair
add_term p x =
    let next = p.sum ⊕ x in
    record {
      sum = next;
      carry = p.carry ⊕ cond (le (abs x) (abs p.sum)) ((p.sum ⊖ next) ⊕ x) ((x ⊖ next) ⊕ p.sum);
    }

-- ---- a sum for each number of a field

unfoldable pub no_sums : List Pair
no_sums = replicate field_size (record { sum = 0·0; carry = 0·0 })

-- sum k; past the end of the list stands a pair of NaNs
abbrev pub sum_at : List Pair → ℕ → Pair
sum_at ps k = get_or ps k (record { sum = nan; carry = nan })

-- term k to sum k, for each k
abbrev pub add_term_at : List Float → ℕ → List Pair → List Pair
add_term_at xs k ps = set ps k (add_term (sum_at ps k) (get_or xs k nan))

unfoldable pub add_terms : List Pair → List Float → List Pair
add_terms ps xs = Fold field_size (add_term_at xs) ps

-- ---- the totals

unfoldable pub total_at : List Pair → ℕ → Float
total_at ps k = (sum_at ps k).sum ⊕ (sum_at ps k).carry

unfoldable pub total_vector : List Pair → ℕ → Vector
total_vector ps k = record { x = total_at ps k; y = total_at ps (k + 1); z = total_at ps (k + 2) }

unfoldable pub totals : List Pair → Newtonian
totals ps = record {
  potential = total_at ps 0;
  gradient = total_vector ps 1;
  hessian = record { x = total_vector ps 4; y = total_vector ps 7; z = total_vector ps 10 };
}
