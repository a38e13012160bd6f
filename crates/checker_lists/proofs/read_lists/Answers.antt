-- `checker_lists::read_lists` meets its contract: each list is read from where it stands. Assumes nothing.
use mathlib.Core.Path.{◌∙◌}
use native.Mathlib.Omega.{arith}
use Rattle.checker_lists.proofs.Lists.{vertices_loaded, faces_loaded, order_loaded}
use Rattle.checker_lists.proofs.read_lists.Goals as goal

pub returns : goal.returns
returns c =
    let b = c.args.sheet.bytes.now in
    record {
      vertices = c.read_f64s.ensures ∙ vertices_loaded b c.requires.vertices;
      faces = c.read_u32s.ensures ∙ faces_loaded b c.requires.faces (omega (arith, c.args.sheet.read.vertices));
      order = c.read_u32s-2.ensures ∙ order_loaded b c.requires.order (omega (arith, c.args.sheet.read.vertices, c.args.sheet.read.faces));
    }
