-- `polyhedron_eight_faces::add_block` meets its contract. Assumes nothing.
use mathlib.Core.Path.{◌∙◌}
use Prim.Native.Nat.{◌<◌, ◌≤◌}
use native.Mathlib.Omega.{arith}
use Rattle.lanes.proofs.Folds.{fold_same}
use Rattle.polyhedron_eight_faces.proofs.Adding.{face-is, all_clear}
use Rattle.polyhedron_eight_faces.proofs.add_block.Goals as goal

pub returns : goal.returns
returns c =
    λ t d.
    let m : c.args.count ≤ 8 = c.requires.count_bound in
    let s = c.sight.ensures c.if-not-sight.false in
    (c.add_faces.ensures ∙ fold_same c.args.count _ _ _ (λ k l f. face-is c.args.p t c.args.g.now c.sight.new.s d s k (let n : k < 8 = omega arith in n) f), all_clear c.args.p t c.args.g.now c.sight.new.s d s)
