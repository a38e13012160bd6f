-- `sheet_body::check_body` meets its contract: the causes 4 to 8 of a mesh, or 9 of a prism. Assumes nothing.
use mathlib.Core.Path.{◌≡◌, sym, ◌∙◌}
use mathlib.Core.Bool.{false}
use Rattle.sheet_rows.specs.Kinds.{is_mesh}
use Rattle.sheet.specs.Input.{input_of, source_input}
use Rattle.sheet_body.proofs.Bodies.{mesh_checked, prism_checked}
use Rattle.sheet_body.proofs.check_body.Goals as goal

pub returns-then-is_mesh : goal.returns-then-is_mesh
returns-then-is_mesh c =
    let told = c.check_surface_with_mates.ensures in
    let s = source_input c.args.source.now in
    λ m b st. mesh_checked (input_of s.kind s.vertices s.faces m b st) (sym c.is_mesh.ensures ∙ c.if-is_mesh.true) told.value told.work_after told.mates_after

pub returns : goal.returns
returns c =
    let no-mesh : is_mesh c.args.source.now.kind ≡ false = sym c.is_mesh.ensures ∙ c.if-is_mesh.false in
    let s = source_input c.args.source.now in
    λ m b st. prism_checked (input_of s.kind s.vertices s.faces m b st) no-mesh (c.requires.1 no-mesh).1 c.args.work.now c.args.mates.now c.requires.2 c.check_prism.ensures
