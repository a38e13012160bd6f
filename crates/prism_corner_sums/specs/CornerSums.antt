-- The field of a rectangular prism in closed form: D. Nagy, G. Papp & J. Benedek, "The gravitational potential and its derivatives for the prism",
-- J. Geodesy 74, 552-560 (2000), with the roundings in the order of the Rust. At unit Gρ
--
--   V = ||| x y ln(z + r) + y z ln(x + r) + z x ln(y + r) − x²/2 atan(yz/xr) − y²/2 atan(zx/yr) − z²/2 atan(xy/zr) |||
--
-- where (x, y, z) is a corner less the station, r = √(x² + y² + z²), and ||| ||| sums over the eight corners with their signs. With L_x = ln(x + r),
-- A_x = atan(yz/xr) and so on in turn, the gradient's x is −||| y L_z + z L_y − x A_x |||, and the Hessian's xx and yz are −||| A_x ||| and ||| L_x |||.
-- p is the station; lo and hi are the corners min and max. Definitions only.
use Rattle.std.specs.Prelude.{ℕ, ◌+◌, ◌/◌, ◌%◌, Bool, true, false, cond, eqb, Float}
use Rattle.std.specs.Float.Ieee.{neg, eq, le}
use Rattle.doubles.specs.Rounded.{◌⊕◌, ◌⊖◌, ◌⊗◌, ◌⊘◌}
use Rattle.doubles.specs.Constants.{0·0, -0·0, 0·5, 1·0}
use Rattle.roots.specs.Root.{Root}
use Rattle.carlson.specs.Logarithm.{ln}
use Rattle.carlson.specs.Arctangent.{atan}
use Rattle.newtonian.specs.Fold.{Fold}
use Rattle.newtonian.specs.Vectors.{zero_field}
use Rattle.newtonian.specs.declared.Vector.{Vector}
use Rattle.newtonian.specs.declared.Newtonian.{Newtonian}
use Rattle.prism_corner_sums.specs.declared.PrismCorner.{PrismCorner}

-- ---- a corner

-- a corner's coordinate less the station's. −0 at an upper face makes a station on the face take the limit from outside.
unfoldable pub coordinate : Bool → Float → Float → Float → Float
coordinate false p lo hi = lo ⊖ p
coordinate true p lo hi = let x = hi ⊖ p in cond (eq x 0·0) -0·0 x

-- L_x = ln(x + r) without cancellation. At and beyond hi both corners of a pair have x ≤ 0, and −ln(r − x) has the same difference over the pair; between lo and hi
-- the corner with x < 0 has x + r = (y² + z²) / (r − x).
unfoldable pub corner_logarithm : Float → Float → Float → Float → Float → Float → Float
corner_logarithm p hi x y z r =
    cond (le hi p) (neg (ln (r ⊖ x)))
    (cond (le 0·0 x) (ln (x ⊕ r)) (ln ((y ⊗ y ⊕ z ⊗ z) ⊘ (r ⊖ x))))

-- A_x = atan(yz / xr), zero where yz is
unfoldable pub corner_angle : Float → Float → Float → Float → Float
corner_angle x y z r = cond (eq (y ⊗ z) 0·0) 0·0 (atan (y ⊗ z ⊘ (x ⊗ r)))

-- corner k of 0 to 7 lies on the upper x, y, z face where k has the bit 1, 2, 4
abbrev pub upper_x : ℕ → Bool
upper_x k = eqb (k % 2) 1

abbrev pub upper_y : ℕ → Bool
upper_y k = eqb (k / 2 % 2) 1

abbrev pub upper_z : ℕ → Bool
upper_z k = eqb (k / 4 % 2) 1

-- (x, y, z) of corner k, with (L_x, L_y, L_z) and (A_x, A_y, A_z)
unfoldable pub corner_at : Vector → Vector → Vector → ℕ → PrismCorner
corner_at p lo hi k =
    let x = coordinate (upper_x k) p.x lo.x hi.x in
    let y = coordinate (upper_y k) p.y lo.y hi.y in
    let z = coordinate (upper_z k) p.z lo.z hi.z in
    let r = Root (x ⊗ x ⊕ y ⊗ y ⊕ z ⊗ z) in
    record {
      at = record { x = x; y = y; z = z };
      log = record {
        x = corner_logarithm p.x hi.x x y z r;
        y = corner_logarithm p.y hi.y y z x r;
        z = corner_logarithm p.z hi.z z x y r;
      };
      angle = record { x = corner_angle x y z r; y = corner_angle y z x r; z = corner_angle z x y r };
    }

-- + at the corners that lie on an odd number of upper faces
unfoldable pub sign : ℕ → Float
sign k = cond (eqb ((k % 2 + k / 2 % 2 + k / 4 % 2) % 2) 1) 1·0 (neg 1·0)

-- ---- the sums

-- k times a logarithm or an angle v (the Rust's `times`). A zero coefficient times the infinite logarithm on an edge counts as zero.
unfoldable pub zero_or_times : Float → Float → Float
zero_or_times k v = cond (eq k 0·0) 0·0 (k ⊗ v)

-- y z L_x − x²/2 A_x
unfoldable pub potential_term : Float → Float → Float → Float → Float → Float
potential_term x y z Lx Ax = zero_or_times (y ⊗ z) Lx ⊖ zero_or_times (0·5 ⊗ x ⊗ x) Ax

-- y L_z + z L_y − x A_x
unfoldable pub gradient_term : Float → Float → Float → Float → Float → Float → Float
gradient_term x y z Ly Lz Ax = zero_or_times y Lz ⊕ zero_or_times z Ly ⊖ zero_or_times x Ax

-- the sums f with the terms of the corner c, of sign s
unfoldable pub add_corner_terms : Float → PrismCorner → Newtonian → Newtonian
add_corner_terms s c f =
    let x = c.at.x in
    let y = c.at.y in
    let z = c.at.z in
    let L = c.log in
    let A = c.angle in
    let yz = f.hessian.y.z ⊕ s ⊗ L.x in
    let zx = f.hessian.z.x ⊕ s ⊗ L.y in
    let xy = f.hessian.x.y ⊕ s ⊗ L.z in
    record {
      potential =
          f.potential ⊕ s ⊗ potential_term x y z L.x A.x ⊕ s ⊗ potential_term y z x L.y A.y
          ⊕ s ⊗ potential_term z x y L.z A.z;
      gradient = record {
        x = f.gradient.x ⊖ s ⊗ gradient_term x y z L.y L.z A.x;
        y = f.gradient.y ⊖ s ⊗ gradient_term y z x L.z L.x A.y;
        z = f.gradient.z ⊖ s ⊗ gradient_term z x y L.x L.y A.z;
      };
      hessian = record {
        x = record { x = f.hessian.x.x ⊖ s ⊗ A.x; y = xy; z = zx };
        y = record { x = xy; y = f.hessian.y.y ⊖ s ⊗ A.y; z = yz };
        z = record { x = zx; y = yz; z = f.hessian.z.z ⊖ s ⊗ A.z };
      };
    }

abbrev pub add_corner : Vector → Vector → Vector → ℕ → Newtonian → Newtonian
add_corner p lo hi k f = add_corner_terms (sign k) (corner_at p lo hi k) f

-- the sum over the eight corners, in order
unfoldable pub corner_sums : Vector → Vector → Vector → Newtonian
corner_sums p lo hi = Fold 8 (add_corner p lo hi) zero_field
