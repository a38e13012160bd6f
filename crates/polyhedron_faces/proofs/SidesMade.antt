-- The sides of eight faces, of their normals, squares and roots. States: `vector-at`: vector k of several; `units`: vectors over the roots of their squares; `sides_made`: the sides;
-- `edge-is`, `side_is`: a side between corners of known places. Assumes nothing.
use mathlib.Core.Path.{◌≡◌, sym, ap, ap₂, ◌∙◌}
use mathlib.Core.List.{List}
use Prim.Native.Nat.{ℕ, ◌+◌, ◌%◌, ◌<◌}
use lib.Ieee.{Float}
use Rattle.roots.specs.Root.{Root}
use Rattle.newtonian.specs.Vectors.{cross, difference, norm, over}
use Rattle.newtonian.specs.declared.Vector.{Vector}
use Rattle.polyhedron_edge_terms.specs.Corners.{unit}
use Rattle.lanes.specs.Lanes.{lane, Lanes}
use Rattle.polyhedron_faces.specs.Faces.{vector_at}
use Rattle.polyhedron_faces.specs.Parts.{edge_at, raw_side, square}
use Rattle.polyhedron_faces.specs.Held.{Holds, HoldsSides}
use Rattle.polyhedron_faces.specs.declared.Vectors.{Vectors}
use Rattle.polyhedron_faces.proofs.FillingRows.{all_lanes}

vector-is : (v : Vector) (x y z : List Float) (k : ℕ) → lane x k ≡ v.x → lane y k ≡ v.y → lane z k ≡ v.z → vector_at x y z k ≡ v
vector-is v x y z k ex ey ez = rw (ex, ey, ez)

pub vector-at : {n : ℕ} {g : ℕ → Vector} {v : Vectors n} → Holds n g v → (k : ℕ) → k < n → vector_at v.x v.y v.z k ≡ g k
vector-at {n} {g} {v} s k h = vector-is (g k) v.x v.y v.z k (s.on_x.at k h) (s.on_y.at k h) (s.on_z.at k h)

-- ---- lengths and directions

unit_of : (v w : Vector) (l : Float) → v ≡ w → l ≡ Root (square w) → over v l ≡ unit w
unfolding unit norm
unit_of v w l p q = rw (p, q)

module _ (g : ℕ → Vector) {n : ℕ} {q l : List Float} (s : Lanes n (λ (i : ℕ). square (g i)) q) (r : Lanes n (λ (i : ℕ). Root (lane q i)) l) where
  root_at : (i : ℕ) → i < n → lane l i ≡ Root (square (g i))
  root_at i h = r.at i h ∙ ap Root (s.at i h)

  norms : Lanes n (λ (i : ℕ). norm (g i)) l
  unfolding norm
  norms = record { size = r.size; at = root_at }

  pub units : {v u : Vectors n} → Holds n g v → Holds n (λ (i : ℕ). over (vector_at v.x v.y v.z i) (lane l i)) u → Holds n (λ (i : ℕ). unit (g i)) u
  units {v} h u =
      let e : (i : ℕ) → i < n → over (vector_at v.x v.y v.z i) (lane l i) ≡ unit (g i) = λ i m. unit_of (vector_at v.x v.y v.z i) (g i) (lane l i) (vector-at h i m) (root_at i m) in
      record {
        on_x = record { size = u.on_x.size; at = λ i m. u.on_x.at i m ∙ ap (λ (a : Vector). a.x) (e i m) };
        on_y = record { size = u.on_y.size; at = λ i m. u.on_y.at i m ∙ ap (λ (a : Vector). a.y) (e i m) };
        on_z = record { size = u.on_z.size; at = λ i m. u.on_z.at i m ∙ ap (λ (a : Vector). a.z) (e i m) };
      }

-- the sides, of what `raw_sides` gives, the roots of its squares, and its normals over these
pub sides_made : {corners : Vectors 24} {normals : Vectors 8} {m u : Vectors 24} {q d l e : List Float} → HoldsSides 24 corners normals m q d
    → Lanes 24 (λ (i : ℕ). Root (lane q i)) l → Lanes 24 (λ (i : ℕ). Root (lane d i)) e → Holds 24 (λ (i : ℕ). over (vector_at m.x m.y m.z i) (lane l i)) u
    → Holds 24 (λ (i : ℕ). unit (raw_side corners.x corners.y corners.z normals.x normals.y normals.z i)) u × Lanes 24 (λ (i : ℕ). norm (edge_at corners.x corners.y corners.z i)) e
sides_made {corners} {normals} w r t u =
    let c = corners in
    let f = normals in (
      units (raw_side c.x c.y c.z f.x f.y f.z) (all_lanes w.normals) r (record { on_x = all_lanes w.on_x; on_y = all_lanes w.on_y; on_z = all_lanes w.on_z }) u,
      norms (edge_at c.x c.y c.z) (all_lanes w.edges) t,
    )

-- ---- a side between corners of known places

module _ (cx cy cz : List Float) (i j : ℕ) {a b : Vector} (p : (i + 8) % 24 ≡ j) (s : a ≡ vector_at cx cy cz i) (t : b ≡ vector_at cx cy cz j) where
  pub edge-is : difference b a ≡ edge_at cx cy cz i
  edge-is = ap₂ difference (t ∙ ap (vector_at cx cy cz) (sym p)) s

  pub side_is : (nx ny nz : List Float) (k : ℕ) {n : Vector} → i % 8 ≡ k → n ≡ vector_at nx ny nz k → cross (difference b a) n ≡ raw_side cx cy cz nx ny nz i
  side_is nx ny nz k q u = ap₂ cross edge-is (u ∙ ap (vector_at nx ny nz) (sym q))
