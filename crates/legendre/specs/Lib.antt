-- Gauss-Legendre quadrature: the table, what `gauss_legendre` answers, the entries of its arrays, and what makes each order of the table a Gauss-Legendre rule.
pub mod Table
pub mod GaussLegendre
pub mod RuleEntries
pub mod IsGaussLegendre
pub mod Tests
