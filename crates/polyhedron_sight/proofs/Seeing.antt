-- Offsets, logarithms and solid angles together are what the station sees. Assumes nothing.
use mathlib.Core.Path.{◌≡◌, ap, ◌∙◌}
use mathlib.Core.Bool.{true}
use mathlib.Core.List.{List}
use Prim.Native.Nat.{ℕ, ◌+◌, ◌<◌}
use native.Mathlib.Omega.{arith}
use lib.Ieee.{Float}
use lib.Ieee.Scale.{finite}
use Rattle.newtonian.specs.declared.Vector.{Vector}
use Rattle.lanes.specs.Lanes.{lane, Lanes}
use Rattle.polyhedron_edge_terms.specs.EdgeTerms.{logarithm}
use Rattle.polyhedron_edge_terms.specs.SolidAngle.{solid_angle}
use Rattle.polyhedron_edge_terms.specs.declared.Corner.{Corner}
use Rattle.polyhedron_logarithms.specs.declared.SeenCorners.{SeenCorners}
use Rattle.polyhedron_logarithms.specs.Sides.{corner_at, next}
use Rattle.polyhedron_logarithms.specs.Seen.{corner_of, logarithm_of}
use Rattle.polyhedron_faces.specs.declared.Vectors.{Vectors}
use Rattle.polyhedron_logarithms.proofs.Terms.{next-below}
use Rattle.polyhedron_sight.specs.Sight.{seen_at}
use Rattle.polyhedron_sight.specs.Seen.{HoldsCorners, angle_of, Sees}

corner-is : (c : Corner) (x y z l : List Float) (k : ℕ) → lane x k ≡ c.r.x → lane y k ≡ c.r.y → lane z k ≡ c.r.z → lane l k ≡ c.l → corner_at x y z l k ≡ c
corner-is c x y z l k ex ey ez el = rw (ex, ey, ez, el)

log-same : {a b a' b' : Corner} (e : Float) → a ≡ a' → b ≡ b' → logarithm a b e ≡ logarithm a' b' e
log-same e p q = rw (p, q)

angle-same : (n : Vector) {a b c a' b' c' : Corner} → a ≡ a' → b ≡ b' → c ≡ c' → solid_angle n a b c ≡ solid_angle n a' b' c'
angle-same n p q r = rw (p, q, r)

module _ (p : Vector) (v : Vectors 24) {c : SeenCorners} (s : HoldsCorners 24 (seen_at p v.x v.y v.z) c) where
  corner-seen : (k : ℕ) → k < 24 → corner_of c k ≡ seen_at p v.x v.y v.z k
  corner-seen k h = corner-is (seen_at p v.x v.y v.z k) c.offsets.x c.offsets.y c.offsets.z c.distances k (s.on_x.at k h) (s.on_y.at k h) (s.on_z.at k h) (s.on_l.at k h)

  pub sighted : (e : List Float) {L ω : List Float} → Lanes 24 (logarithm_of c e) L → ((k : ℕ) → k < 24 → finite (lane L k) ≡ true)
      → ((n : ℕ → Vector) → Lanes 8 (angle_of c n) ω) → Sees p v e (record { corners = c; logarithms = L; angles = ω })
  sighted e g f o = record {
    offset = λ k h. ap (λ (a : Corner). a.r) (corner-seen k h);
    log = λ k h. g.at k h ∙ log-same (lane e k) (corner-seen k h) (corner-seen (next k) (next-below k h));
    log_finite = f;
    angle = λ n k h. (o (λ i. n)).at k h ∙ angle-same n (corner-seen k (omega arith)) (corner-seen (8 + k) (omega arith)) (corner-seen (16 + k) (omega arith));
  }
