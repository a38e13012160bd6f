-- Three linear equations by Gaussian elimination with partial pivoting: the pivot of a column is the largest |entry| at or below the diagonal, its row is exchanged
-- with the diagonal's, and multiples of it are taken from the rows below. With the roundings in the order of the Rust. Definitions only.
use Rattle.std.specs.Prelude.{Bool, ◌||◌, cond, Float}
use Rattle.std.specs.Float.Ieee.{is_nan, le}
use Rattle.doubles.specs.Rounded.{◌⊕◌, ◌⊖◌, ◌⊗◌, ◌⊘◌}
use Rattle.doubles.specs.Constants.{ -0·0}
use Rattle.doubles.specs.Magnitude.{abs}
use Rattle.newtonian.specs.declared.Vector.{Vector}
use Rattle.linalg.specs.declared.Row.{Row}
use Rattle.linalg.specs.declared.Rows.{Rows}

unfoldable pub rows_of : Row → Row → Row → Rows
rows_of p q r = record { first = p; second = q; third = r }

-- ---- the pivot

-- v takes the place of the pivot u: |u| ≤ |v|, so that of equal ones the last is the pivot; and a NaN is above all numbers, as the Rust's `total_cmp` has it
unfoldable pub takes : Float → Float → Bool
takes u v = is_nan v || le (abs u) (abs v)

-- the pivot's row of column x first
unfoldable pub pivot_x : Rows → Rows
pivot_x s =
    let p = s.first in
    let q = s.second in
    let r = s.third in
    cond (takes p.x q.x)
    (cond (takes q.x r.x) (rows_of r q p) (rows_of q p r))
    (cond (takes p.x r.x) (rows_of r q p) s)

-- the pivot's row of column y second
unfoldable pub pivot_y : Rows → Rows
pivot_y s = cond (takes s.second.y s.third.y) (rows_of s.first s.third s.second) s

-- ---- elimination

-- q - f p, where f makes the entry of column x, or y, vanish
unfoldable pub without_x : Row → Row → Row
without_x q p =
    let f = q.x ⊘ p.x in
    record { x = q.x ⊖ f ⊗ p.x; y = q.y ⊖ f ⊗ p.y; z = q.z ⊖ f ⊗ p.z; right = q.right ⊖ f ⊗ p.right }

unfoldable pub without_y : Row → Row → Row
without_y q p =
    let f = q.y ⊘ p.y in
    record { x = q.x; y = q.y ⊖ f ⊗ p.y; z = q.z ⊖ f ⊗ p.z; right = q.right ⊖ f ⊗ p.right }

unfoldable pub eliminate_x : Rows → Rows
eliminate_x s = rows_of s.first (without_x s.second s.first) (without_x s.third s.first)

unfoldable pub eliminate_y : Rows → Rows
eliminate_y s = rows_of s.first s.second (without_y s.third s.second)

-- ---- back substitution: from the last row up, the right side less the sum of the terms known, over the diagonal. Each sum starts at -0, also the empty one.
unfoldable pub back_substituted : Rows → Vector
back_substituted s =
    let p = s.first in
    let q = s.second in
    let r = s.third in
    let z = (r.right ⊖ -0·0) ⊘ r.z in
    let y = (q.right ⊖ (-0·0 ⊕ q.z ⊗ z)) ⊘ q.y in
    let x = (p.right ⊖ (-0·0 ⊕ p.y ⊗ y ⊕ p.z ⊗ z)) ⊘ p.x in
    record { x = x; y = y; z = z }

unfoldable pub gauss : Rows → Vector
gauss s = back_substituted (eliminate_y (pivot_y (eliminate_x (pivot_x s))))
