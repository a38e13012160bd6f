-- `sheet_rows::fields_at` meets its contract. Assumes nothing.
use mathlib.Core.Path.{◌≡◌, sym, ap, ◌∙◌}
use mathlib.Core.Bool.{true, false}
use mathlib.Core.List.{List}
use Prim.Native.Nat.{ℕ}
use lib.Ieee.{Float}
use Rattle.polyhedron_centroid.specs.Centroid.{centroid, radius}
use Rattle.polyhedron.specs.Polyhedron.{polyhedron_at}
use Rattle.polyhedron_centroid.specs.declared.Center.{Center}
use Rattle.sheet_rows.specs.Kinds.{is_mesh}
use Rattle.sheet_rows.specs.BodyWithCenter.{center_of}
use Rattle.sheet_rows.specs.Row.{field_at}
use Rattle.sheet_rows.proofs.fields_at.Goals as goal

mesh-center : (kind : ℕ) (c : Center) (v : List Float) (f : List ℕ) → is_mesh kind ≡ true → c ≡ center_of kind v f
    → (c.centroid ≡ centroid v f) × (c.radius ≡ radius (centroid v f) v f)
unfolding center_of
mesh-center kind c v f m e = (ap (λ (d : Center). d.centroid) e ∙ rw m, ap (λ (d : Center). d.radius) e ∙ rw m)

pub returns-then-is_mesh : goal.returns-then-is_mesh
unfolding field_at polyhedron_at
returns-then-is_mesh c =
    let mesh : is_mesh c.args.kind ≡ true = sym c.is_mesh.ensures ∙ c.if-is_mesh.true in
    let k = mesh-center c.args.kind c.args.c c.args.verts.now c.args.faces.now mesh c.requires.center in
    record { at = λ j l. c.fields_of.ensures.at j l ∙ simp (mesh, k.0, k.1) }

pub returns : goal.returns
unfolding field_at
returns c =
    let prism : is_mesh c.args.kind ≡ false = sym c.is_mesh.ensures ∙ c.if-is_mesh.false in
    record { at = λ j l. c.prism_fields.ensures j l ∙ simp prism }
