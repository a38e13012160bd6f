-- A counting loop that sets vector k of several to g k. States: `no_vectors`, `one-vector`, `all-vectors`, `all-written`: how it begins, goes on and ends; `kept-vector`: what it has
-- not set. Assumes nothing.
use mathlib.Core.Path.{◌≡◌, sym, ap, ◌∙◌}
use Prim.Native.Nat.{ℕ, ◌+◌, ◌≤◌, ◌<◌}
use native.Mathlib.Omega.{arith}
use lib.ListN.{length, set, length-set}
use Rattle.newtonian.specs.declared.Vector.{Vector}
use Rattle.lanes.proofs.Filling.{Filled, all-filled, none_filled, one-filled}
use Rattle.polyhedron_faces.specs.Faces.{vector_at}
use Rattle.polyhedron_faces.specs.Held.{Holds, HasLanes}
use Rattle.polyhedron_faces.specs.declared.Vectors.{Vectors}

-- of n vectors, those below k are g's, and the rest are v₀'s. Outside this crate the first write shows that there are n.
pub record FilledVectors (n : ℕ) (g : ℕ → Vector) (v₀ : Vectors n) (k : ℕ) (v : Vectors n) : Type 0 where
  pub whole : 0 < k → HasLanes n v
  pub on_x : length v.x ≡ n → Filled n (λ (i : ℕ). (g i).x) v₀.x k v.x
  pub on_y : length v.y ≡ n → Filled n (λ (i : ℕ). (g i).y) v₀.y k v.y
  pub on_z : length v.z ≡ n → Filled n (λ (i : ℕ). (g i).z) v₀.z k v.z

-- v with w at k
abbrev pub set_vector : {n : ℕ} → Vectors n → ℕ → Vector → Vectors n
set_vector v k w = record { x = set v.x k w.x; y = set v.y k w.y; z = set v.z k w.z }

pub no_vectors : {n : ℕ} {g : ℕ → Vector} {v : Vectors n} → FilledVectors n g v 0 v
no_vectors = record { whole = λ l. absurd (omega arith); on_x = none_filled; on_y = none_filled; on_z = none_filled }

module _ {n : ℕ} {g : ℕ → Vector} {v₀ v : Vectors n} where
  pub one-vector : {k : ℕ} {w : Vector} → FilledVectors n g v₀ k v → k < n → HasLanes n (set_vector v k w) → w ≡ g k → FilledVectors n g v₀ (k + 1) (set_vector v k w)
  one-vector {k} {w} f l s e = record {
    whole = λ m. s;
    on_x = λ m. one-filled (f.on_x (sym (length-set v.x k w.x) ∙ m)) l (ap (λ (a : Vector). a.x) e);
    on_y = λ m. one-filled (f.on_y (sym (length-set v.y k w.y) ∙ m)) l (ap (λ (a : Vector). a.y) e);
    on_z = λ m. one-filled (f.on_z (sym (length-set v.z k w.z) ∙ m)) l (ap (λ (a : Vector). a.z) e);
  }

  pub kept-vector : {k : ℕ} → FilledVectors n g v₀ k v → HasLanes n v → (j : ℕ) → k ≤ j → vector_at v.x v.y v.z j ≡ vector_at v₀.x v₀.y v₀.z j
  kept-vector f s j l = rw ((f.on_x s.0).rest j l, (f.on_y s.1).rest j l, (f.on_z s.2).rest j l)

  pub all-vectors : {k : ℕ} → FilledVectors n g v₀ k v → n ≤ k → HasLanes n v → Holds n g v
  all-vectors f l s = record { on_x = all-filled (f.on_x s.0) l; on_y = all-filled (f.on_y s.1) l; on_z = all-filled (f.on_z s.2) l }

  -- the same of at least one vector: the loop has written
  pub all-written : {k : ℕ} → FilledVectors n g v₀ k v → n ≤ k → 0 < n → Holds n g v
  all-written f l m = all-vectors f l (f.whole (omega arith))
