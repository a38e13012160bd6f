-- `checker_body::check_solid` meets its contract: 7 and 8 of a mesh, or 9 of a prism. Assumes nothing.
use mathlib.Core.Path.{sym, ap, ◌∙◌}
use Rattle.sheet_rows.specs.Kinds.{is_mesh}
use Rattle.checker_body.proofs.Solid.{of_mesh, of_prism}
use Rattle.checker_body.proofs.check_solid.Goals as goal

pub returns-then-is_mesh : goal.returns-then-is_mesh
returns-then-is_mesh c =
    let b = c.args.body in
    let tested = ap is_mesh (sym b.sheet.read.kind) ∙ sym c.is_mesh.ensures in
    c.check_faces.ensures ∙ of_mesh b.sheet.bytes.now b.vertices b.faces (tested ∙ c.if-is_mesh.true)

pub returns : goal.returns
returns c =
    let b = c.args.body in
    let tested = ap is_mesh (sym b.sheet.read.kind) ∙ sym c.is_mesh.ensures in
    c.check_prism.ensures ∙ of_prism b.sheet.bytes.now b.vertices b.faces (tested ∙ c.if-is_mesh.false)
