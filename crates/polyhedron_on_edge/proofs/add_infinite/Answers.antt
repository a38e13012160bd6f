-- `polyhedron_on_edge::add_infinite` meets its contract: what the edges still to come add to the sums is what all of them add. Assumes nothing.
use Rattle.std.proofs.Common.{◌∙◌, ◌≡◌, [], sym, arith, get_or, get_or-take}
use Rattle.std.proofs.lemmas.List.{length-take-le}
use Rattle.newtonian.specs.Numbers.{hessian_of}
use Rattle.polyhedron_on_edge.proofs.Adding.{infinite_end, infinite_more}
use Rattle.polyhedron_on_edge.proofs.Storing.{dyad-chunk}
use Rattle.polyhedron_on_edge.specs.Block.{dyad_in}
use Rattle.polyhedron_on_edge.proofs.add_infinite.Goals as goal

pub loop-d-preserved : goal.loop-d-preserved
loop-d-preserved c =
    let l = c.loop-d in
    let n = c.args.count in
    let ds = c.args.dyads.now in
    let all = c.as_chunks.result.0.now in
    let many = length-take-le n all (omega (arith, c.requires)) in
    let this : hessian_of (get_or all l.d-index []) ≡ dyad_in ds l.d-index =
    rw c.as_chunks.ensures.front (dyad-chunk _ ds l.d-index (omega (arith, many, c.loop-d-test.true, c.requires))) in
    λ es keys h.
    simp (c.infinite_entries-sums.ensures, c.from.ensures, get_or-take n all l.d-index [] (omega (arith, many, c.loop-d-test.true)), this)
    (infinite_more es keys ds n h c.requires l.d-index (omega (arith, many, c.loop-d-test.true)) l.sums)
    ∙ l.invariant es keys h

pub returns : goal.returns
returns c =
    let l = c.loop-d in
    let n = c.args.count in
    let many = length-take-le n c.as_chunks.result.0.now (omega (arith, c.requires)) in
    let e : l.d-index ≡ n = omega (arith, many, l.auto.d-index-end, c.loop-d-test.false) in
    λ es keys h. sym (infinite_end es keys c.args.dyads.now n h c.requires l.sums) ∙ (rw e at (l.invariant es keys h))
