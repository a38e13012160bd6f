-- Counts within the limits, one by one. Assumes nothing.
use mathlib.Core.Path.{◌≡◌}
use mathlib.Core.Bool.{true, ◌&&◌}
use Prim.Native.Nat.{ℕ, ◌≤◌}
use lib.Dec.{leb}
use borrow.Author.Tests.{leb-true}
use Rattle.lists.proofs.Numbers.{both}
use Rattle.mesh_orders.specs.Edges.{max_vertices, max_faces, max_stations}
use Rattle.sheet_rows.specs.Kinds.{within_counts}

pub counts_each : (v f s : ℕ) → within_counts v f s ≡ true → (v ≤ max_vertices) × (f ≤ max_faces) × (s ≤ max_stations)
unfolding within_counts
counts_each v f s e =
    let t = both (leb v max_vertices) (leb f max_faces && leb s max_stations) e in
    let u = both (leb f max_faces) (leb s max_stations) t.1 in
    (leb-true v max_vertices t.0, leb-true f max_faces u.0, leb-true s max_stations u.1)
