-- The mates that the check of a mesh finds, in the bytes that are lent for them. `f` is the face list. Definitions only.
use Rattle.std.specs.Prelude.{◌≡◌, List, ◌⊎◌, ℕ, ◌*◌, ◌<◌, length, get_or, Float}
use Rattle.std.proofs.lemmas.List.Edits.{sets}
use Rattle.std.specs.Prelude.{Ok, Err}
use Rattle.refusals.specs.Answer.{Answer}
use Rattle.refusals.specs.Causes.{Cause}
use Rattle.mesh_orders.specs.Order.{order_list}
use Rattle.mesh_orders.specs.Mates.{mate, mates}
use Rattle.mesh.specs.Check.{order_cause}
use Rattle.sheet_layout.specs.LittleEndian.{pack}
use Rattle.mesh_check.specs.CheckOrder.{check_order}

-- entry k of s is the mate of entry k of the order list
pub record HoldsMates (f s : List ℕ) : Type 0 where
  pub size : length s ≡ length f
  pub at : (k : ℕ) → k < length f → get_or s k 0 ≡ mate f (get_or (order_list f) k 0)

-- m bytes for the mates of n edge uses: none, or four to each
abbrev pub MatesRoom : ℕ → ℕ → Type 0
MatesRoom n m = (m ≡ 0) ⊎ (m ≡ 4 * n)

-- these bytes, which were m, after the cause c: the mates where there is none, else as they were. Where none are lent, none are written
unfoldable pub mates_after : Cause → List ℕ → List ℕ → List ℕ
mates_after (Ok _) f m = sets m 0 (pack 4 (mates f))
mates_after (Err r) f m = m

-- the causes 5 to 8 of the mesh v, f were tried: the answer is r, work has become p, and the bytes for the mates, which were m, have become q
pub record EdgesChecked (v : List Float) (f m : List ℕ) (r : Answer Float) (p q : List ℕ) : Type 0 where
  pub answer : r ≡ check_order v f
  pub work : p ≡ order_list f
  pub mates : q ≡ mates_after (order_cause v f (order_list f)) f m
