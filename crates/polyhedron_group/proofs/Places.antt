-- Which face stands in a lane. States: `within`: face first + k in lane k, as far as there are faces; `face-below`: a face of the mesh in each lane. Assumes nothing.
use mathlib.Core.Path.{◌≡◌}
use mathlib.Core.Logic.{⊎_elim}
use Prim.Native.Nat.{ℕ, ◌+◌, ◌<◌}
use native.Mathlib.Omega.{arith}
use borrow.Author.Tests.{le-ltb, lt-ltb}
use Rattle.lists.proofs.Numbers.{below?}
use Rattle.polyhedron_group.specs.Group.{face_in}

module _ (first n k : ℕ) where
  pub within : first + k < n → face_in first n k ≡ first + k
  unfolding face_in
  within h = simp (lt-ltb (first + k) n h)

  pub face-below : first < n → face_in first n k < n
  unfolding face_in
  face-below h = ⊎_elim (λ l. simp (lt-ltb (first + k) n l) l) (λ l. simp (le-ltb (first + k) n l) (omega arith)) (below? (first + k) n)
