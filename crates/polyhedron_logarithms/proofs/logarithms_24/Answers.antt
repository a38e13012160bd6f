-- `polyhedron_logarithms::logarithms_24` meets its contract. Assumes nothing.
use mathlib.Core.Path.{ap, ◌∙◌}
use Rattle.carlson.specs.Logarithm.{ln}
use Rattle.polyhedron_logarithms.proofs.Terms.{logarithm-is}
use Rattle.polyhedron_logarithms.proofs.logarithms_24.Goals as goal

pub returns : goal.returns
returns c =
    let w = c.in_ok-l.ensures in
    (record { size = w.size; at = λ k h. w.at k h ∙ ap ln (c.ratios_24.ensures.at k h) ∙ logarithm-is _ _ _ }, c.finite_24.ensures c.if-not-finite_24.false)
