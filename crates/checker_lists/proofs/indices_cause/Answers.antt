-- `checker_lists::indices_cause` meets its contract: 4, then 17 and 18. Assumes nothing.
use Rattle.std.proofs.lemmas.Result.{err_from_is_err_and}
use mathlib.Core.Path.{◌≡◌, sym, ap, ◌∙◌}
use Prim.Native.Nat.{◌*◌}
use native.Mathlib.Omega.{arith}
use lib.ListN.{length}
use Rattle.sheet.specs.Writer.{no_such_vertex}
use Rattle.sheet.specs.Checker.{faces_in, parse}
use Rattle.sheet_laws.specs.Reading.{faces-length, order_in-length}
use Rattle.checker_lists.specs.Stages.{indices_cause}
use Rattle.checker_lists.proofs.Lists.{vertex-is, lists_are}
use Rattle.checker_lists.proofs.indices_cause.Goals as goal

pub returns-in_err-no_such_vertex : goal.returns-in_err-no_such_vertex
unfolding indices_cause
returns-in_err-no_such_vertex c =
    let missing : no_such_vertex (parse c.args.sheet.bytes.now) ≡ c.no_such_vertex.result = sym (c.no_such_vertex.ensures ∙ vertex-is c.args.sheet.bytes.now _ c.requires.faces _ c.args.sheet.read.vertices) in
    let p = err_from_is_err_and c.from_residual.result c.from_residual.ensures.1 in
    rw (p.1, p.2, missing ∙ c.in_err-no_such_vertex.was)

pub wrong_lists-requires : goal.wrong_lists-requires
wrong_lists-requires c =
    let corners : length c.args.faces.now ≡ 3 * faces_in c.args.sheet.bytes.now = ap length c.requires.faces ∙ faces-length c.args.sheet.bytes.now in
    let o = c.args.sheet.opened in
    let order = ap length c.requires.order ∙ order_in-length c.args.sheet.bytes.now in
    let n = corners in
    record {
      triples = omega arith;
      few = omega (arith, o.faces);
      order = order ∙ sym (ap length c.requires.faces);
      mates = omega (arith, o.whole, c.args.sheet.read.vertices, c.args.sheet.read.faces);
    }

pub returns : goal.returns
unfolding indices_cause
returns c =
    let missing : no_such_vertex (parse c.args.sheet.bytes.now) ≡ c.no_such_vertex.result = sym (c.no_such_vertex.ensures ∙ vertex-is c.args.sheet.bytes.now _ c.requires.faces _ c.args.sheet.read.vertices) in
    rw (missing ∙ c.in_ok-no_such_vertex.was)
    (c.wrong_lists.ensures ∙ lists_are c.args.sheet.bytes.now _ c.requires.faces _ c.requires.order (omega (arith, c.args.sheet.read.vertices, c.args.sheet.read.faces)))

pub no_such_vertex-requires : goal.no_such_vertex-requires
no_such_vertex-requires c =
    let corners : length c.args.faces.now ≡ 3 * faces_in c.args.sheet.bytes.now = ap length c.requires.faces ∙ faces-length c.args.sheet.bytes.now in
    omega (arith, corners, c.args.sheet.opened.faces)
