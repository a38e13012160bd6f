-- `mesh::scan::no_such_vertex` meets its contract: the corners so far name vertices. Assumes nothing.
use Prim.Native.Nat.{◌/◌}
use native.Mathlib.Omega.{arith}
use lib.ListN.{length}
use borrow.Author.Tests.{lt-ltb, le-ltb}
use Rattle.refusals.specs.declared.Refusal.TheVariants.{NoSuchVertex}
use Rattle.mesh.specs.Check.{names_vertex, no_such_vertex}
use Rattle.mesh.proofs.Scans.{scan_start, scan_more, scan_stop, scan_end}
use Rattle.mesh.proofs.scan.no_such_vertex.Goals as goal

pub loop-i-init : goal.loop-i-init
loop-i-init c =
    let f = c.args.faces.now in
    scan_start (length f) (names_vertex c.args.vertices f) (λ i. NoSuchVertex (i / 3))

pub returns-then-vertices-v : goal.returns-then-vertices-v
unfolding no_such_vertex
returns-then-vertices-v c =
    let f = c.args.faces.now in
    scan_stop (length f) (names_vertex c.args.vertices f) (λ i. NoSuchVertex (i / 3)) c.loop-i.i (omega arith) c.loop-i.invariant (le-ltb _ _ c.if-vertices-v.true)

pub loop-i-preserved : goal.loop-i-preserved
loop-i-preserved c =
    let f = c.args.faces.now in
    scan_more (length f) (names_vertex c.args.vertices f) (λ i. NoSuchVertex (i / 3)) c.loop-i.i c.loop-i.invariant (lt-ltb _ _ c.if-vertices-v.false)

pub returns : goal.returns
unfolding no_such_vertex
returns c =
    let f = c.args.faces.now in
    scan_end (length f) (names_vertex c.args.vertices f) (λ i. NoSuchVertex (i / 3)) c.loop-i.i (omega arith) (omega arith) c.loop-i.invariant
