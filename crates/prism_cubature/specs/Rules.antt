-- The rule along an axis. Definitions only.
use Rattle.std.specs.Prelude.{◌≡◌, ℕ, ◌<◌, ◌≤◌, get_or}
use Rattle.std.specs.Float.{nan}
use Rattle.legendre.specs.GaussLegendre.{max_order, node, weight}
use Rattle.legendre.specs.declared.Rule.{Rule}

-- the first numbers of its arrays, as many as its count, are the Gauss-Legendre rule of that order
pub record IsRule (rule : Rule) : Type 0 where
  pub small : rule.count ≤ max_order
  pub nodes : (i : ℕ) → i < rule.count → get_or rule.nodes i nan ≡ node rule.count i
  pub weights : (i : ℕ) → i < rule.count → get_or rule.weights i nan ≡ weight rule.count i
