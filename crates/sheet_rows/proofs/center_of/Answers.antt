-- `sheet_rows::center_of` meets its contract. Assumes nothing.
use mathlib.Core.Path.{◌≡◌, sym, ◌∙◌}
use mathlib.Core.Bool.{true}
use mathlib.Core.List.{List}
use Prim.Native.Nat.{ℕ}
use lib.Ieee.{Float}
use Rattle.polyhedron_centroid.specs.Centroid.{centroid, radius}
use Rattle.polyhedron_centroid.specs.declared.Center.{Center}
use Rattle.sheet_rows.specs.Kinds.{is_mesh}
use Rattle.sheet_rows.specs.BodyWithCenter.{center_of}
use Rattle.sheet_rows.proofs.center_of.Goals as goal

of_mesh : (kind : ℕ) (v : List Float) (f : List ℕ) (c : Center) → is_mesh kind ≡ true → c.centroid ≡ centroid v f → c.radius ≡ radius (centroid v f) v f → c ≡ center_of kind v f
unfolding center_of
of_mesh kind v f c m p q = rw (m, ← q, ← p)

pub returns-then-is_mesh : goal.returns-then-is_mesh
returns-then-is_mesh c =
    let a = c.args in
    of_mesh a.kind a.verts.now a.faces.now _ (sym c.is_mesh.ensures ∙ c.if-is_mesh.true) c.of.ensures.0 c.of.ensures.1

pub returns : goal.returns
unfolding center_of
returns c = rw (sym c.is_mesh.ensures ∙ c.if-is_mesh.false)
