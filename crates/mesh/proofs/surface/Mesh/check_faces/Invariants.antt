-- `mesh::surface::Mesh::check_faces` meets its contract: the faces so far have normals, and the sum so far is the fold so far. Assumes nothing.
use mathlib.Core.Path.{◌≡◌}
use Rattle.doubles.specs.Constants.{0·0}
use Rattle.newtonian.specs.Fold.{Fold}
use Rattle.mesh.specs.Surface.{add_face_volume}
use Rattle.mesh.proofs.Faces.{Normals}
use Rattle.mesh.proofs.surface.Mesh.check_faces.Given as goal

abbrev pub invariant-loop-k : goal.invariant-loop-k
invariant-loop-k l = record { normals : Normals l.self.verts.now l.self.faces.now l.k; volume : l.sum ≡ Fold l.k (add_face_volume l.self.verts.now l.self.faces.now) 0·0 }
