-- `polyhedron_edge_face_sums::near_field` meets its contract: the count says whether there are too many edges. Assumes nothing.
use Rattle.std.proofs.Common.{arith}
use Rattle.polyhedron_edge_face_sums.proofs.Carrying.{not-too_many, too_many}
use Rattle.polyhedron_edge_face_sums.specs.EdgeFaceSums.{sums_of}
use Rattle.polyhedron_edge_face_sums.proofs.near_field.Goals as goal

pub returns-then-count-gt-EDGE_LIMIT : goal.returns-then-count-gt-EDGE_LIMIT
returns-then-count-gt-EDGE_LIMIT c =
    let a = c.args in
    λ p v f keys h. too_many a.i p v f keys a.dyads.now a.field a.count h (omega (arith, c.if-count-gt-EDGE_LIMIT.true))

pub returns : goal.returns
returns c =
    let a = c.args in
    λ p v f keys h.
    not-too_many a.i p v f keys a.dyads.now a.field a.count h (omega (arith, c.if-count-gt-EDGE_LIMIT.false)) c.symmetric.result
    (simp (c.symmetric.ensures, c.add_infinite-t.ensures (sums_of p v f).edges keys h.edges))
