-- `polyhedron_centroid::OrderedMesh::tally_used` meets its contract: the count of a tally is that of the steps. Assumes nothing.
use mathlib.Core.Path.{◌≡◌, ap, ◌∙◌}
use native.Mathlib.Omega.{arith}
use borrow.Author.Rules.{rules}
use Rattle.mesh.specs.Surface.{vertex_count}
use Rattle.polyhedron_centroid.specs.Centroid.{over_used, no_tally, add_vertex, tally_used}
use Rattle.polyhedron_centroid.specs.declared.Tally.{Tally}
use Rattle.polyhedron_centroid.proofs.OrderedMesh.tally_used.Goals as goal

pub fold_used-requires : goal.fold_used-requires
unfolding no_tally add_vertex
fold_used-requires c =
    let v = c.args.self.verts.now in
    record {
      bound = vertex_count v;
      inside = rw c.ordered_faces.ensures c.args.self.body.inside;
      steps = λ t. t.count;
      begins = ap (λ (t : Tally). t.count) c.no_tally.ensures;
      grows = λ i a r p. let e : r ≡ add_vertex v i a = search rules in omega (arith, ap (λ (t : Tally). t.count) e);
      callable = λ i a l n. search rules;
    }

pub returns : goal.returns
unfolding tally_used
returns c =
    let m = c.args.self in
    let v = m.verts.now in
    (rw c.ordered_faces.ensures at c.fold_used.ensures) (add_vertex v) (vertex_count v) (λ i a r p. search rules) m.body.inside
    ∙ ap (over_used m.faces.now (vertex_count v) (add_vertex v)) c.no_tally.ensures
