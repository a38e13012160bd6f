-- An edge has one logarithm, whichever way it is run through. Assumes nothing.
use mathlib.Core.Path.{◌≡◌}
use lib.Ieee.{Float, binary64}
use Rattle.doubles.specs.Rounded.{◌⊖◌, ◌⊗◌}
use Rattle.doubles.proofs.EitherWay.{add_either, mul_either, square_either}
use Rattle.newtonian.specs.Vectors.{difference, dot, cross, norm}
use Rattle.newtonian.specs.declared.Vector.{Vector}
use Rattle.polyhedron_edge_terms.specs.EdgeTerms.{gap, logarithm}
use Rattle.polyhedron_edge_terms.specs.declared.Corner.{Corner}

dot_either : (a b : Vector) → dot a b ≡ dot b a
unfolding dot
dot_either a b = rw (mul_either binary64 a.x b.x, mul_either binary64 a.y b.y, mul_either binary64 a.z b.z)

-- x y − z w, squared, from the other side
part_either : (x y z w : Float) → (x ⊗ y ⊖ z ⊗ w) ⊗ (x ⊗ y ⊖ z ⊗ w) ≡ (w ⊗ z ⊖ y ⊗ x) ⊗ (w ⊗ z ⊖ y ⊗ x)
part_either x y z w = rw (mul_either binary64 x y, mul_either binary64 z w) (square_either binary64 (y ⊗ x) (w ⊗ z))

cross_either : (a b : Vector) → dot (cross a b) (cross a b) ≡ dot (cross b a) (cross b a)
unfolding dot cross
cross_either a b = rw (part_either a.y b.z a.z b.y, part_either a.z b.x a.x b.z, part_either a.x b.y a.y b.x)

norm_either : (p q : Vector) → norm (difference p q) ≡ norm (difference q p)
unfolding norm dot difference
norm_either p q = rw (square_either binary64 p.x q.x, square_either binary64 p.y q.y, square_either binary64 p.z q.z)

gap_either : (a b : Corner) (e : Float) → gap a b e ≡ gap b a e
unfolding gap
gap_either a b e =
    rw (add_either binary64 a.l b.l, mul_either binary64 a.l b.l, dot_either a.r b.r, cross_either a.r b.r)

-- the ends a and b, as a station sees them, at p and q
pub logarithm_either : (a b : Corner) (p q : Vector) → logarithm a b (norm (difference q p)) ≡ logarithm b a (norm (difference p q))
unfolding logarithm
logarithm_either a b p q = rw (norm_either q p, gap_either a b (norm (difference p q)), add_either binary64 a.l b.l)
