-- The 6-point Gauss-Legendre rule, mapped from (−1, 1) to (0, 1). Definitions only.
use Rattle.std.specs.Prelude.{ℕ, List, [], ◌∷◌, Float}
use Rattle.doubles.specs.Rounded.{◌⊕◌, ◌⊗◌}
use Rattle.doubles.specs.Constants.{0·5, 1·0}
use Rattle.legendre.specs.GaussLegendre.{node, weight}

-- how many points the rule has on each axis
abbrev pub points : ℕ
points = 6

-- node i, mapped from (−1, 1) to (0, 1)
unfoldable pub mapped_node : ℕ → Float
mapped_node i = 0·5 ⊗ (node points i ⊕ 1·0)

-- weight i, for (0, 1)
unfoldable pub mapped_weight : ℕ → Float
mapped_weight i = 0·5 ⊗ weight points i

-- all nodes and all weights
unfoldable pub mapped_nodes : List Float
mapped_nodes = mapped_node 0 ∷ mapped_node 1 ∷ mapped_node 2 ∷ mapped_node 3 ∷ mapped_node 4 ∷ mapped_node 5 ∷ []

unfoldable pub mapped_weights : List Float
mapped_weights = mapped_weight 0 ∷ mapped_weight 1 ∷ mapped_weight 2 ∷ mapped_weight 3 ∷ mapped_weight 4 ∷ mapped_weight 5 ∷ []
