-- The reference facts of document 01 that are shown of the definitions, those marked with a star, as one fact over one list: the eight of the tetrahedron T, the root of
-- 2.25, and the total field of (0, 0, 0) and (3, 4, 0): `reference_facts`. Assumes nothing.
use Rattle.std.specs.Prelude.{◌≡◌, refl, List, [], ◌∷◌, ◌++◌, map, Float}
use Rattle.std.proofs.Common.{ap, ap₂}
use Rattle.std.specs.Float.{binary64}
use Rattle.std.specs.Float.Ieee.{of_bits}
use Rattle.doubles.specs.Constants.{0·0, 1·5, 3·0, 4·0, 5·0}
use Rattle.roots.specs.Root.{Root}
use Rattle.roots.specs.WholeRoot.{root-of-2·25}
use Rattle.mesh_laws.specs.Tetrahedron as tetrahedron
use Rattle.anomaly.specs.TotalField.{total_field_of}
use Rattle.anomaly.specs.WorkedExamples.{total_field_of_3_4_0}

-- what is asked: of the tetrahedron, or a number
pub data Value : Type 0 where
  mesh : tetrahedron.MeshAnswer → Value
  number : Float → Value

abbrev pub 2·25 : Float
2·25 = of_bits binary64 0x4002_0000_0000_0000

unfoldable pub questions : List Value
questions =
    map mesh tetrahedron.mesh_questions
    ++ (number (Root 2·25) ∷ number (total_field_of (record { x = 0·0; y = 0·0; z = 0·0 }) (record { x = 3·0; y = 4·0; z = 0·0 })) ∷ [])

unfoldable pub answers : List Value
answers = map mesh tetrahedron.mesh_answers ++ (number 1·5 ∷ number 5·0 ∷ [])

root_as_bits : Root 2·25 ≡ 1·5
unfolding of_bits
root_as_bits = root-of-2·25

pub reference_facts : questions ≡ answers
unfolding questions answers
reference_facts = ap₂ ◌++◌ (ap (map mesh) tetrahedron.reference) (ap₂ ◌∷◌ (ap number root_as_bits) (ap₂ ◌∷◌ (ap number total_field_of_3_4_0) refl))
