-- `polyhedron_centroid::OrderedMesh::farthest` meets its contract. Assumes nothing.
use native.Mathlib.Omega.{arith}
use mathlib.Core.Path.{refl}
use borrow.Author.Rules.{rules}
use Rattle.mesh.specs.Surface.{vertex_count}
use Rattle.polyhedron_centroid.proofs.OrderedMesh.farthest.Goals as goal

pub fold_used-requires : goal.fold_used-requires
fold_used-requires c = record {
  bound = vertex_count c.args.self.verts.now;
  inside = rw c.ordered_faces.ensures c.args.self.body.inside;
  steps = λ m. 0;
  begins = refl;
  grows = λ i a r p. omega arith;
  callable = λ i a l n. search rules;
}
