-- What the answers of `profile` say of the single call `polyhedron` at each station, as plain statements. `v`, `f` and `st` are the lists of vertices, faces and stations, `w` and `o`
-- the lengths of work and fields. Definitions only; ProfileLaws shows that `profile` answers so exactly where they hold.
use Rattle.std.specs.Prelude.{◌≡◌, true, false, List, ℕ, ◌*◌, ◌%◌, ◌≤◌, ◌<◌, Float, length, take, drop}
use Rattle.std.specs.Float.Ieee.{lt}
use Rattle.doubles.specs.Constants.{0·0}
use Rattle.std.specs.Prelude.{Ok, Err}
use Rattle.refusals.specs.Answer.{Answer}
use Rattle.refusals.specs.declared.Refusal.{Refusal}
use Rattle.refusals.specs.declared.Refusal.TheVariants.{TooManyEdges}
use Rattle.newtonian.specs.Vectors.{field_numbers, field_size}
use Rattle.newtonian.specs.declared.Newtonian.{Newtonian}
use Rattle.lists.specs.Count.{Below}
use Rattle.mesh_orders.specs.Edges.{max_vertices, max_faces, max_stations, occurrences}
use Rattle.mesh.specs.Surface.{vertex_count, face_count, normal, is_zero, volume}
use Rattle.mesh_laws.specs.Refused.{NumbersWithin}
use Rattle.polyhedron.specs.Polyhedron.{polyhedron}
use Rattle.profile.specs.Profile.{station_count, station_at}

-- the call has a value
pub record HasValue (a : Answer Newtonian) : Type 0 where
  pub field : Newtonian
  pub given : a ≡ Ok field

-- r is 11 with the number of one of n stations
pub record StationRefusal (n : ℕ) (r : Refusal) : Type 0 where
  pub station : ℕ
  pub within : station < n
  pub given : r ≡ TooManyEdges station

module _ (v : List Float) (f : List ℕ) (st : List Float) (w : ℕ) where
  -- the single call at station i
  abbrev pub single_call : ℕ → Answer Newtonian
  single_call i = polyhedron (station_at st i) v f w

  -- record i of the list l, its numbers 13 i to 13 i + 12, is what the single call answers at station i
  pub record RecordFromCall (l : List Float) (i : ℕ) : Type 0 where
    pub field : Newtonian
    pub answered : single_call i ≡ Ok field
    pub stored : take field_size (drop (field_size * i) l) ≡ field_numbers field

  -- document 01's causes before any field, each denied by itself
  pub record InputRight (o : ℕ) : Type 0 where
    -- 1
    pub coordinates : length v % 3 ≡ 0
    pub corners : length f % 3 ≡ 0
    pub triples : length st % 3 ≡ 0
    -- 2
    pub vertices : vertex_count v ≤ max_vertices
    pub faces : face_count f ≤ max_faces
    pub stations : station_count st ≤ max_stations
    -- 12
    pub work : length f ≤ w
    pub fields : field_size * station_count st ≤ o
    -- 3
    pub vertex-numbers : NumbersWithin v
    pub station-numbers : NumbersWithin st
    -- 4
    pub inside : Below f (vertex_count v)
    -- 5 and 6
    pub once : (a b : ℕ) → occurrences f a b ≤ 1
    pub back : (a b : ℕ) → 1 ≤ occurrences f a b → 1 ≤ occurrences f b a
    -- 7 and 8
    pub normals : (k : ℕ) → k < face_count f → is_zero (normal v f k) ≡ false
    pub positive : lt 0·0 (volume v f) ≡ true

  -- no cause: none of these, and the single call has a value at each station
  pub record NoCause (o : ℕ) : Type 0 where
    pub input : InputRight o
    pub each : (i : ℕ) → i < station_count st → HasValue (single_call i)

  -- 11 at station i: none of these, the single call is refused there by 11, and at each station before it has a value
  pub record RefusedAt (o i : ℕ) : Type 0 where
    pub input : InputRight o
    pub station : i < station_count st
    pub itself : single_call i ≡ Err (TooManyEdges 0)
    pub before : (j : ℕ) → j < i → HasValue (single_call j)
