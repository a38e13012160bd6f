-- `mesh_check::check_edges` meets its contract: the order list, then the causes 5 to 8, then the mates. Assumes nothing.
use mathlib.Core.Path.{◌≡◌}
use native.Mathlib.Omega.{arith}
use lib.ListN.{length}
use Rattle.std.proofs.lemmas.Result.{err_from_is_err_and}
use Rattle.mesh_check.proofs.EdgeReturns.{order_fits, edges-refused, edges-accepted}
use Rattle.mesh_check.proofs.check_edges.Goals as goal

pub put_mates-requires : goal.put_mates-requires
put_mates-requires c =
    let z : length c.check_order.new.spare ≡ length c.args.mesh.faces.now = omega (arith, c.requires.1) in
    order_fits c.args.mesh.faces.now c.order.new.work c.check_order.new.spare (length c.args.mates.now) c.order.ensures z c.requires.3

pub returns-in_err-volume : goal.returns-in_err-volume
returns-in_err-volume c =
    let p = err_from_is_err_and c.from_residual.result c.from_residual.ensures.1 in
    rw (p.1, p.2) (edges-refused c.args.mesh.verts.now c.args.mesh.faces.now c.args.mates.now c.check_order.ensures.value c.order.ensures _ c.in_err-volume.was)

pub returns : goal.returns
returns c =
    edges-accepted c.args.mesh.verts.now c.args.mesh.faces.now c.args.mates.now c.check_order.ensures.value c.order.ensures c.in_ok-volume.volume c.in_ok-volume.was
    c.check_order.ensures.holds_mates c.put_mates.ensures
