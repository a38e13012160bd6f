-- `profile_fields::profile_fields` meets its contract: the records of all stations of the blocks so far are written. Assumes nothing.
use mathlib.Core.Path.{◌≡◌}
use Prim.Native.Nat.{◌-◌, ◌/◌, ◌≤◌}
use lib.ListN.{length}
use Rattle.mesh.specs.Surface.{vertex}
use Rattle.polyhedron.specs.Polyhedron.{polyhedron_from}
use Rattle.profile_records.specs.Records.{Written}
use Rattle.profile_fields.proofs.profile_fields.Given as goal

abbrev pub invariant-loop-first : goal.invariant-loop-first
invariant-loop-first l =
    (l.first ≤ l.total) × (l.total ≡ length l.stations / 3) × (length l.fields ≡ length l.initial.fields)
    × Written (λ i. polyhedron_from i (vertex l.stations i) l.center.centroid l.center.radius l.mesh.verts.now l.mesh.faces.now) l.first l.initial.fields l.fields

abbrev pub decreases-loop-first : goal.decreases-loop-first
decreases-loop-first l = l.total - l.first
