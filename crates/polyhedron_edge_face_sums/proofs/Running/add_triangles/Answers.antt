-- `polyhedron_edge_face_sums::Running::add_triangles` meets its contract: the sums so far are the fold so far. Assumes nothing.
use Rattle.std.proofs.Common.{◌≡◌, ◌+◌, ◌-◌, arith}
use Rattle.newtonian.specs.Fold.{Fold, fold_more}
use Rattle.polyhedron_edge_face_sums.proofs.Running.add_triangles.Goals as goal

pub loop-k-init : goal.loop-k-init
unfolding Fold
loop-k-init c = let e : c.args.range.first - c.args.range.first ≡ 0 = omega arith in rw e (λ s h. h)

pub loop-k-preserved : goal.loop-k-preserved
loop-k-preserved c =
    let l = c.loop-k in
    let next : l.k + 1 - c.args.range.first ≡ (l.k - c.args.range.first) + 1 = omega arith in
    let face : c.args.range.first + (l.k - c.args.range.first) ≡ l.k = omega arith in
    λ s h. rw (next, fold_more, face) (simp c.triangle_of.ensures at (c.add_triangle.ensures _ (l.invariant s h)))
