-- `profile_fields::profile_fields` meets its contract: a block that has a refused station ends the call, and so does the last. Assumes nothing.
use Rattle.std.proofs.Common.{◌≡◌, ◌+◌, ◌/◌, ℕ, arith, length, ap, refl, subst, sym}
use Rattle.std.proofs.lemmas.Result.{err_from_is_err_and}
use Rattle.refusals.specs.Answer.{Answer}
use Rattle.refusals.specs.Causes.{Cause}
use Rattle.newtonian.specs.declared.Newtonian.{Newtonian}
use Rattle.newtonian.specs.declared.Vector.{Vector}
use Rattle.mesh.specs.Surface.{vertex}
use Rattle.polyhedron.specs.Polyhedron.{polyhedron_from}
use Rattle.profile_records.proofs.Storing.{none_written, ended}
use Rattle.profile_records.specs.Records.{Done, Written}
use Rattle.profile_fields.proofs.profile_fields.Goals as goal

pub loop-first-init : goal.loop-first-init
loop-first-init c = (omega arith, refl, refl, none_written _ _)

pub returns-in_err-block : goal.returns-in_err-block
returns-in_err-block c =
    let a = c.args in
    let s = c.of-range.result in
    let n = length a.stations.now / 3 in
    let o = a.fields.now in
    let field : ℕ → Answer Newtonian = λ i. polyhedron_from i (vertex a.stations.now i) a.center.centroid a.center.radius a.mesh.verts.now a.mesh.faces.now in
    let stored = c.block.ensures.by_index field o (λ j m. ap (λ (p : Vector). polyhedron_from (s.first + j) p a.center.centroid a.center.radius a.mesh.verts.now a.mesh.faces.now) (sym (c.of-range.ensures.places j m)))
    (subst (λ (k : ℕ). Written field k o c.loop-first.fields) (sym c.of-range.ensures.range.0) c.loop-first.invariant.3) in
    let p = err_from_is_err_and c.from_residual.result c.from_residual.ensures.1 in
    let told = c.in_err-block.was in
    rw (p.1, p.2) (subst (λ (x : Cause). Done field n o x c.block.new.fields) told
    (stored.over n (omega (arith, c.of-range.ensures.range, c.min-n.ensures, c.loop-first-test.true)) (λ z. absurd (let y : ◌≡◌ {A = ℕ} 0 1 = cc (told, z) in omega arith))))

-- after the last block
pub returns-in_ok-block : goal.returns-in_ok-block
returns-in_ok-block c =
    let a = c.args in
    let s = c.of-range.result in
    let o = a.fields.now in
    let field : ℕ → Answer Newtonian = λ i. polyhedron_from i (vertex a.stations.now i) a.center.centroid a.center.radius a.mesh.verts.now a.mesh.faces.now in
    let stored = c.block.ensures.by_index field o (λ j m. ap (λ (p : Vector). polyhedron_from (s.first + j) p a.center.centroid a.center.radius a.mesh.verts.now a.mesh.faces.now) (sym (c.of-range.ensures.places j m)))
    (subst (λ (k : ℕ). Written field k o c.loop-first.fields) (sym c.of-range.ensures.range.0) c.loop-first.invariant.3) in
    let e : s.first + s.n ≡ length a.stations.now / 3 = omega (arith, c.of-range.ensures.range, c.min-n.ensures) in
    ended _ _ _ _ (subst (λ (k : ℕ). Written field k o c.block.new.fields) e (stored.on c.in_ok-block.was))

pub returns : goal.returns
returns c =
    let e : c.loop-first.first ≡ length c.args.stations.now / 3 = omega arith in
    ended _ _ _ _ (rw e at c.loop-first.invariant.3)
