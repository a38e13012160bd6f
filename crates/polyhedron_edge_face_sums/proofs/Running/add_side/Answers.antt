-- `polyhedron_edge_face_sums::Running::add_side` meets its contract: the field changes where the logarithm is finite, else the edges. Assumes nothing.
use Rattle.std.proofs.Common.{◌≡◌, false, true}
use Rattle.std.specs.Float.Ieee.Scale.{finite}
use Rattle.polyhedron_edge_face_sums.specs.EdgeFaceSums.{add_side}
use Rattle.polyhedron_edge_terms.specs.EdgeTerms.{logarithm}
use Rattle.polyhedron_edge_face_sums.proofs.Running.add_side.Goals as goal

pub returns-then-is_finite : goal.returns-then-is_finite
unfolding add_side
returns-then-is_finite c =
    λ x y s p q h.
    let t : finite (logarithm x y c.args.e.length) ≡ true = simp (← p, ← c.is_finite.ensures) c.if-is_finite.true in
    simp t (record { field = simp (c.add_edge_terms-self.ensures, ← p, q, h.field); edges = h.edges })

pub returns : goal.returns
unfolding add_side
returns c =
    λ x y s p q h.
    let t : finite (logarithm x y c.args.e.length) ≡ false = simp (← p, ← c.is_finite.ensures) c.if-is_finite.false in
    simp t (record { field = h.field; edges = simp (c.edge_key-key.ensures, c.dyad.ensures) at (c.add.ensures s.edges h.edges) })
