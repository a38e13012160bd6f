-- `newtonian::add_point_at` meets its contract. Assumes nothing.
use Rattle.newtonian.specs.Point.{add_point}
use Rattle.newtonian.proofs.add_point_at.Goals as goal

pub returns : goal.returns
unfolding add_point
returns c =
    simp (
      c.add_point_row-3.ensures,
      c.add_point_row-2.ensures,
      c.add_point_row.ensures,
      c.add_point_gradient.ensures,
      c.diagonal-e.ensures,
      ← c.requires.1,
      ← c.requires.0,
    )
