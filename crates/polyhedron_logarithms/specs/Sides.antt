-- The sides of eight faces side by side, as a station sees them. Corner j of face k, and the side from there to the face's next corner, stand at 8 j + k. Definitions only.
use Rattle.std.specs.Prelude.{cond, List, ℕ, ◌+◌, ◌-◌, ltb, Float}
use Rattle.doubles.specs.Rounded.{◌⊕◌, ◌⊘◌}
use Rattle.lanes.specs.Lanes.{lane}
use Rattle.polyhedron_edge_terms.specs.EdgeTerms.{gap, logarithm}
use Rattle.polyhedron_edge_terms.specs.declared.Corner.{Corner}
use Rattle.polyhedron_faces.specs.Faces.{vector_at}

-- where the face's next corner stands
unfoldable pub next : ℕ → ℕ
next k = cond (ltb k 16) (k + 8) (k - 16)

-- what the logarithm of an edge is of
unfoldable pub ratio : Corner → Corner → Float → Float
ratio a b e = (a.l ⊕ b.l ⊕ e) ⊘ gap a b e

module _ (x y z l : List Float) where
  -- corner k, with its offset in x, y, z and its distance in l
  abbrev pub corner_at : ℕ → Corner
  corner_at k = record { r = vector_at x y z k; l = lane l k }

  -- of side k, whose length stands in e
  abbrev pub ratio_at : List Float → ℕ → Float
  ratio_at e k = ratio (corner_at k) (corner_at (next k)) (lane e k)

  abbrev pub logarithm_at : List Float → ℕ → Float
  logarithm_at e k = logarithm (corner_at k) (corner_at (next k)) (lane e k)
