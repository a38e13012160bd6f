-- `polyhedron_far::Block::add_tetrahedra` meets its contract. Assumes nothing.
use mathlib.Core.Path.{◌≡◌}
use Prim.Native.Nat.{ℕ, ◌+◌}
use native.Mathlib.Omega.{arith}
use Rattle.polyhedron_tetrahedra.specs.Tetrahedra.{add_tetrahedron}
use Rattle.polyhedron_far_lanes.specs.EightFields.{place_at}
use Rattle.polyhedron_far.proofs.Stations.{no_face, one-face}
use Rattle.polyhedron_far.proofs.Block.add_tetrahedra.Goals as goal

pub loop-k-init : goal.loop-k-init
loop-k-init c =
    let a = c.args in
    let r = a.range in
    (omega arith, no_face (λ (i j : ℕ). add_tetrahedron (place_at a.self.now.places i) a.apex r.mesh.verts.now r.mesh.faces.now (r.first + j)) (omega arith))

pub loop-k-preserved : goal.loop-k-preserved
loop-k-preserved c =
    let l = c.loop-k in
    let a = c.args in
    let r = a.range in (
      omega (arith, c.loop-k-test.true),
      one-face (λ (i j : ℕ). add_tetrahedron (place_at a.self.now.places i) a.apex r.mesh.verts.now r.mesh.faces.now (r.first + j)) l.k l.invariant.1 c.add_far_face.ensures,
    )

pub returns : goal.returns
returns c =
    let l = c.loop-k in
    let e : l.k ≡ c.args.range.n = omega (arith, l.invariant.0, c.loop-k-test.false) in
    rw (← e) l.invariant.1
