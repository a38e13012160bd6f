-- `newtonian::add_fields` meets its contract. Assumes nothing.
use Rattle.newtonian.specs.Vectors.{add_fields}
use Rattle.newtonian.proofs.add_fields.Goals as goal

pub returns : goal.returns
unfolding add_fields
returns c = simp (c.add_vectors-4.ensures, c.add_vectors-3.ensures, c.add_vectors-2.ensures, c.add_vectors.ensures)
