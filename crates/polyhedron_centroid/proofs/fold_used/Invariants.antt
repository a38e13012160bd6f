-- `polyhedron_centroid::fold_used` meets its contract: the vertices below next are taken, in no more steps than there were places. Assumes nothing.
use mathlib.Core.Path.{◌≡◌}
use Prim.Native.Nat.{ℕ, ◌+◌, ◌≤◌}
use Rattle.lists.specs.Count.{Below}
use Rattle.polyhedron_centroid.specs.Centroid.{Takes}
use Rattle.polyhedron_centroid.proofs.Passes.{Passed}
use Rattle.polyhedron_centroid.proofs.fold_used.Given as goal

abbrev pub invariant-loop-u : goal.invariant-loop-u
invariant-loop-u g l = record {
  passed : (s : ℕ → g.row.A.Denot → g.row.A.Denot) → Takes (λ i a r. goal.F-post g l.step i a r) s → Passed l.ordered.faces.now s l.fn.first l.u-index l.next l.taken;
  below : (v : ℕ) → Below l.ordered.faces.now v → l.next ≤ v;
  few : (m : g.row.A.Denot → ℕ) → m l.fn.first ≡ 0 → ((i : ℕ) (a r : g.row.A.Denot) → goal.F-post g l.step i a r → m r ≤ m a + 1) → m l.taken ≤ l.u-index;
}
