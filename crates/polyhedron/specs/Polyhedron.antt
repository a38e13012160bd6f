-- What `polyhedron` answers: the field of a closed polyhedron of triangles at a station, or document 01's refusals. Far from the centroid it is the cubature over the
-- tetrahedra, else the edge and face sums. p is the station and i its number; v is the vertex list, f the face list and n the length of work. Definitions only.
use Rattle.std.specs.Prelude.{ℕ, Bool, cond, List, Float}
use Rattle.std.specs.Float.Ieee.{lt}
use Rattle.doubles.specs.Rounded.{◌⊗◌}
use Rattle.doubles.specs.Constants.{5·0}
use Rattle.roots.specs.Root.{Root}
use Rattle.refusals.specs.Causes.{or_else, unless}
use Rattle.std.specs.Prelude.{Ok}
use Rattle.refusals.specs.Answer.{Answer, or_answer}
use Rattle.refusals.specs.Causes.{Cause}
use Rattle.refusals.specs.declared.Refusal.TheVariants.{OutOfLimits}
use Rattle.newtonian.specs.Vectors.{vector_within_limits}
use Rattle.newtonian.specs.declared.Vector.{Vector}
use Rattle.newtonian.specs.declared.Newtonian.{Newtonian}
use Rattle.mesh.specs.Check.{out_of_limits, count_cause, surface_cause}
use Rattle.polyhedron_tetrahedra.specs.Tetrahedra.{tetrahedra}
use Rattle.polyhedron_edge_face_sums.specs.EdgeFaceSums.{edge_face_sums}
use Rattle.polyhedron_centroid.specs.Centroid.{centroid, squared_distance, radius}

-- ---- a mesh that is checked

-- beyond so many radii from the centroid the tetrahedra take over
abbrev pub polyhedron_far : Float
polyhedron_far = 5·0

-- p is farther from the centroid c than that many times the radius r
unfoldable pub is_far : Vector → Vector → Float → Bool
is_far p c r = lt (polyhedron_far ⊗ r) (Root (squared_distance p c))

-- the field of a checked mesh whose centroid c and radius r are at hand
unfoldable pub polyhedron_from : ℕ → Vector → Vector → Float → List Float → List ℕ → Answer Newtonian
polyhedron_from i p c r v f = cond (is_far p c r) (Ok (tetrahedra p c v f)) (edge_face_sums i p v f)

-- the field of a checked mesh
unfoldable pub polyhedron_at : ℕ → Vector → List Float → List ℕ → Answer Newtonian
polyhedron_at i p v f =
    let c = centroid v f in
    polyhedron_from i p c (radius c v f) v f

-- ---- the public call

-- 3, for the station
abbrev pub station_out_of_limits : Vector → Cause
station_out_of_limits p = unless (vector_within_limits p) OutOfLimits

-- 1, 2, 12, and 3 for the vertices and the station
unfoldable pub given_cause : Vector → List Float → List ℕ → ℕ → Cause
given_cause p v f n = or_else (count_cause v f n) (or_else (out_of_limits v) (station_out_of_limits p))

-- 1, 2, 12, 3, then 4 to 8
unfoldable pub polyhedron_cause : Vector → List Float → List ℕ → ℕ → Cause
polyhedron_cause p v f n = or_else (given_cause p v f n) (surface_cause v f)

-- the causes 1, 2, 12, 3 and 4 to 8, then the field or 11. A single point has the station number 0.
unfoldable pub polyhedron : Vector → List Float → List ℕ → ℕ → Answer Newtonian
polyhedron p v f n = or_answer (polyhedron_cause p v f n) (polyhedron_at 0 p v f)
