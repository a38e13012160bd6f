-- The total-field anomaly, by how much an anomaly B changes what a total-field magnetometer reads in the ambient field F: |F + B| - |F|, as (2F·B + B²)/(|F + B| + |F|), which does not cancel, with the
-- roundings in the order of the Rust. Definitions only.
use Rattle.std.specs.Prelude.{Float}
use Rattle.doubles.specs.Rounded.{◌⊕◌, ◌⊗◌, ◌⊘◌}
use Rattle.doubles.specs.Constants.{2·0}
use Rattle.refusals.specs.Causes.{unless}
use Rattle.std.specs.Prelude.{Ok}
use Rattle.refusals.specs.Answer.{Answer, or_answer}
use Rattle.refusals.specs.declared.Refusal.TheVariants.{OutOfLimits}
use Rattle.newtonian.specs.Vectors.{add_vectors, dot, norm}
use Rattle.newtonian.specs.declared.Vector.{Vector}
use Rattle.anomaly.specs.Limits.{both_within_limits}

unfoldable pub total_field_of : Vector → Vector → Float
total_field_of F B = (2·0 ⊗ dot F B ⊕ dot B B) ⊘ (norm (add_vectors F B) ⊕ norm F)

-- the public call, refused by 3
unfoldable pub total_field : Vector → Vector → Answer Float
total_field F B = or_answer (unless (both_within_limits F B) OutOfLimits) (Ok (total_field_of F B))
