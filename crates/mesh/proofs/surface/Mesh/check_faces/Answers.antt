-- `mesh::surface::Mesh::check_faces` meets its contract: the faces so far have normals, and the sum so far is the fold so far. Assumes nothing.
use mathlib.Core.Path.{sym, ap, ◌∙◌}
use native.Mathlib.Omega.{arith}
use Rattle.doubles.specs.Constants.{0·0}
use Rattle.newtonian.specs.Fold.{fold-none, fold_more}
use Rattle.refusals.specs.Causes.{Cause, or_else}
use Rattle.mesh.specs.Surface.{is_zero, add_face_volume, volume}
use Rattle.mesh.specs.Check.{inverted, faces_cause, solid_of}
use Rattle.mesh.proofs.Faces.{normals-start, normals-more, normals_stop, normals-end, sum-end}
use Rattle.mesh.proofs.surface.Mesh.check_faces.Goals as goal

pub loop-k-init : goal.loop-k-init
loop-k-init c =
    let v = c.args.self.verts.now in
    let f = c.args.self.faces.now in
    record { normals = normals-start v f; volume = sym (fold-none (add_face_volume v f) 0·0) }

pub returns-then-is_zero : goal.returns-then-is_zero
unfolding faces_cause
returns-then-is_zero c =
    let v = c.args.self.verts.now in
    let f = c.args.self.faces.now in
    ap (λ (d : Cause). solid_of (or_else d (inverted v f)) (volume v f))
    (normals_stop v f c.loop-k.k (omega arith) c.loop-k.invariant.normals (ap is_zero (sym c.normal.ensures) ∙ sym c.is_zero.ensures ∙ c.if-is_zero.true))

pub loop-k-preserved : goal.loop-k-preserved
loop-k-preserved c =
    let v = c.args.self.verts.now in
    let f = c.args.self.faces.now in
    record {
      normals = normals-more v f c.loop-k.k c.loop-k.invariant.normals (ap is_zero (sym c.normal.ensures) ∙ sym c.is_zero.ensures ∙ c.if-is_zero.false);
      volume = rw fold_more (simp (c.face_volume-sum.ensures, c.loop-k.invariant.volume));
    }

pub returns-then-sum : goal.returns-then-sum
unfolding faces_cause inverted
returns-then-sum c =
    let l = c.loop-k in
    let v = c.args.self.verts.now in
    let f = c.args.self.faces.now in
    simp (← normals-end v f l.k (omega arith) (omega arith) l.invariant.normals, ← sum-end v f l.sum l.k (omega arith) (omega arith) l.invariant.volume, c.if-sum.true)

pub returns : goal.returns
unfolding faces_cause inverted
returns c =
    let l = c.loop-k in
    let v = c.args.self.verts.now in
    let f = c.args.self.faces.now in
    simp (← normals-end v f l.k (omega arith) (omega arith) l.invariant.normals, ← sum-end v f l.sum l.k (omega arith) (omega arith) l.invariant.volume, c.if-sum.false)
