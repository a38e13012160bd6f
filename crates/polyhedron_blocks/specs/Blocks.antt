-- No part of the field's definition: how the code holds the sums of a block of stations, over which it walks the faces once: running sums for each station, in the stations' order.
-- Definitions only.
use Rattle.std.specs.Prelude.{[], List, ℕ, get_or}
use Rattle.std.proofs.Common.{lit≤}
use Rattle.std.specs.Float.{nan}
use Rattle.newtonian.specs.declared.Vector.{Vector}
use Rattle.polyhedron_edge_face_sums.specs.EdgeFaceSums.{Sums}
use Rattle.polyhedron_edge_face_sums.specs.Carried.{Carries}
use Rattle.polyhedron_edge_face_sums.specs.declared.Running.{Running}

-- so many stations to a block
abbrev pub block_size : ℕ
block_size = 8

-- what a list of stations, and one of running sums, holds past its end
abbrev pub no_vector : Vector
no_vector = record { x = nan; y = nan; z = nan }

abbrev pub no_run : Running
no_run = record {
  field = record { potential = nan; gradient = no_vector; hessian = record { x = no_vector; y = no_vector; z = no_vector } };
  edges = record { keys = []; dyads = []; count = 0; few = lit≤ tt };
}

-- station i of a block has the sums s
abbrev pub CarriesAt : ℕ → Sums → List Running → Type 0
CarriesAt i s runs = Carries s (get_or runs i no_run)
