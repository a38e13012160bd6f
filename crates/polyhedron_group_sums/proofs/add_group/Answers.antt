-- `polyhedron_group_sums::add_group` meets its contract. Assumes nothing.
use Rattle.std.proofs.Common.{arith}
use Rattle.polyhedron_group_sums.proofs.ClearGroups.{carries_clear}
use Rattle.polyhedron_group_sums.proofs.add_group.Goals as goal

pub returns-in-Some : goal.returns-in-Some
returns-in-Some c =
    let a = c.args in
    let r = a.faces.now.range in
    let h = a.faces.now.holds (omega (arith, c.if-range-lt-FEWEST.false)) in
    carries_clear a.p r.mesh.verts.now r.mesh.faces.now r.first r.n r.within a.faces.now.few a.run.now c.in-Some.field (c.in-Some.ensures _ h.faces)
