-- What `row_at` is handed of a body that was checked: its vertices `v` and faces `f`, and the center `c`, taken once for all stations. Definitions only.
use Rattle.std.specs.Prelude.{◌≡◌, true, false, cond, List, ℕ, ◌≤◌, Float, length}
use Rattle.doubles.specs.Constants.{0·0}
use Rattle.mesh.specs.Surface.{Body}
use Rattle.polyhedron_centroid.specs.Centroid.{centroid, radius}
use Rattle.polyhedron_centroid.specs.declared.Center.{Center}
use Rattle.sheet_rows.specs.Kinds.{is_mesh}

-- a mesh's center is its centroid and radius; a prism has none, and gets zeros
unfoldable pub center_of : ℕ → List Float → List ℕ → Center
center_of kind v f =
    let mesh : Center = record { centroid = centroid v f; radius = radius (centroid v f) v f } in
    let none : Center = record { centroid = record { x = 0·0; y = 0·0; z = 0·0 }; radius = 0·0 } in
    cond (is_mesh kind) mesh none

pub record BodyWithCenter (kind : ℕ) (c : Center) (v : List Float) (f : List ℕ) : Type 0 where
  pub body : is_mesh kind ≡ true → Body v f
  pub center : c ≡ center_of kind v f
  pub corners : is_mesh kind ≡ false → 6 ≤ length v
