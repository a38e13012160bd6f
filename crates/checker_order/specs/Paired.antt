-- Mates that point back to each other, which the scan of the mates tries first: it looks up a vertex and a mate where the definition looks up an edge. Definitions only.
use Rattle.std.specs.Prelude.{◌≡◌, List, ℕ, ◌+◌, ◌<◌, length, get_or}
use Rattle.mesh_orders.specs.Edges.{from, to}

module _ (f m : List ℕ) where
  -- f is the face list, m its mates: the mate of use u is a use, which leaves the vertex that u reaches and has the mate u
  pub record PairedAt (u : ℕ) : Type 0 where
    pub within : get_or m u 0 < length f
    pub meets : from f (get_or m u 0) ≡ to f u
    pub back : get_or m (get_or m u 0) 0 ≡ u

  -- of a face, of which i is the first use
  pub record PairedFace (i : ℕ) : Type 0 where
    pub first : PairedAt i
    pub second : PairedAt (i + 1)
    pub third : PairedAt (i + 2)

  -- of all uses
  abbrev pub Paired : Type 0
  Paired = (u : ℕ) → u < length f → PairedAt u
