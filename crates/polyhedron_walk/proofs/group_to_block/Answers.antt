-- `polyhedron_walk::group_to_block` meets its contract: the first j stations have the group, and the others what they had. Assumes nothing.
use Rattle.std.proofs.Common.{◌≡◌, ◌+◌, ◌<◌, ◌≤◌, ◌∙◌, arith, ℕ, List, true, false, length, get_or, ⊎_elim, sym, set}
use Rattle.std.proofs.lemmas.List.{get_or_default}
use Rattle.std.proofs.Math.Seq.{get_or-set_other, get_or-set_same}
use Rattle.lists.proofs.Numbers.{same?, true≢false}
use Rattle.polyhedron_blocks.specs.Blocks.{no_run, no_vector}
use Rattle.polyhedron_edge_face_sums.specs.Carried.{Adds}
use Rattle.polyhedron_edge_face_sums.specs.declared.Running.{Running}
use Rattle.polyhedron_walk.proofs.group_to_block.Goals as goal
use Rattle.polyhedron_walk.proofs.group_to_block.Goals.{then-block-j, else-block-j}

-- the turn of station j, after which it has the sums r: P says that a station has had its turn
turn : (P : ℕ → Running → Type 0) (before runs : List Running) (j : ℕ) (r : Running) → j < length runs → P j r
    → ((i : ℕ) → i < j → P i (get_or runs i no_run)) × ((i : ℕ) → j ≤ i → get_or runs i no_run ≡ get_or before i no_run)
    → ((i : ℕ) → i < j + 1 → P i (get_or (set runs j r) i no_run)) × ((i : ℕ) → j + 1 ≤ i → get_or (set runs j r) i no_run ≡ get_or before i no_run)
turn P before runs j r here done h = (
  λ i l.
      ⊎_elim
      (λ e. rw e (rw (get_or-set_same runs j r no_run here) done))
      (λ m. rw (get_or-set_other runs j i r no_run m) (h.0 i (omega (arith, m))))
      (same? i j),
  λ i l. get_or-set_other runs j i r no_run (λ e. omega arith) ∙ h.1 i (omega arith),
)

pub loop-j-preserved : goal.loop-j-preserved
loop-j-preserved c =
    let l = c.loop-j in
    let a = c.args in
    let b = a.block.now in
    let r = a.faces.now.range in
    let here : l.j < length l.runs = omega arith in
    let was : get_or l.runs l.j c.index-runs-j.result ≡ get_or a.runs.now l.j no_run =
    get_or_default l.runs l.j c.index-runs-j.result no_run here ∙ l.invariant.1 l.j (omega arith) in
    let P : ℕ → Running → Type 0 =
    λ i s. get_or b.near i false ≡ true → Adds (get_or b.places i no_vector) r.mesh.verts.now r.mesh.faces.now r.first r.n (get_or a.runs.now i no_run) s in
    elim c.if-block-j.branch [
      | then-block-j w ↦ rw w.runs-is (turn P a.runs.now l.runs l.j _ here (λ m. rw (← was) w.add_group.ensures) l.invariant)
      | else-block-j w ↦ rw w.runs-is (turn P a.runs.now l.runs l.j _ here (λ m. absurd (true≢false (sym m ∙ w.if-block-j.false))) l.invariant)
    ]
