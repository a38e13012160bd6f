-- The fields at eight stations side by side: number q of station k's field stands in lane 8 q + k. Definitions only.
use Rattle.std.specs.Prelude.{◌≡◌, List, ℕ, zero, suc, ◌+◌, ◌*◌, ◌<◌, Float, length, get_or, set}
use Rattle.std.specs.Float.{nan}
use Rattle.newtonian.specs.Fold.{Fold}
use Rattle.newtonian.specs.Vectors.{difference, dot, field_numbers, field_size}
use Rattle.newtonian.specs.declared.Vector.{Vector}
use Rattle.newtonian.specs.declared.Newtonian.{Newtonian}
use Rattle.lanes.specs.Lanes.{lane}
use Rattle.polyhedron_far_points.specs.Tetrahedral.{point_at}

-- station k's place
abbrev pub place_at : List Vector → ℕ → Vector
place_at places k = get_or places k (record { x = nan; y = nan; z = nan })

-- station k's field
abbrev pub field_at : List Float → ℕ → Newtonian
field_at f k = record {
  potential = lane f k;
  gradient = record { x = lane f (8 + k); y = lane f (16 + k); z = lane f (24 + k) };
  hessian = record {
    x = record { x = lane f (32 + k); y = lane f (40 + k); z = lane f (48 + k) };
    y = record { x = lane f (56 + k); y = lane f (64 + k); z = lane f (72 + k) };
    z = record { x = lane f (80 + k); y = lane f (88 + k); z = lane f (96 + k) };
  };
}

-- f has eight fields, and that of station k is g k
pub record Fields (g : ℕ → Newtonian) (f : List Float) : Type 0 where
  pub size : length f ≡ 104
  pub at : (k : ℕ) → k < 8 → field_at f k ≡ g k

-- ---- one station's lanes

-- where number q of station k's field stands
abbrev pub lane_of : ℕ → ℕ → ℕ
lane_of zero k = k
lane_of (suc q) k = 8 * suc q + k

-- f with the field v in station k's lanes
abbrev pub put_number : ℕ → Newtonian → ℕ → List Float → List Float
put_number k v q f = set f (lane_of q k) (get_or (field_numbers v) q nan)

unfoldable pub put : ℕ → Newtonian → List Float → List Float
put k v f = Fold field_size (put_number k v) f

-- ---- one point

-- lanes o to o + 7 of q are the squared distances of the point u from the stations at px, py, pz
pub record Squares (px py pz : List Float) (u : Vector) (o : ℕ) (q : List Float) : Type 0 where
  pub at : (k : ℕ) → k < 8 → lane q (o + k) ≡ dot (difference u (point_at px py pz k)) (difference u (point_at px py pz k))

-- the points n, n + 1 and n + 2, each added by the step h
abbrev pub three_steps : (ℕ → Newtonian → Newtonian) → ℕ → Newtonian → Newtonian
three_steps h n f = h (n + 2) (h (n + 1) (h n f))
