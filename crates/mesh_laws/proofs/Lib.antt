-- What the answers of `check_mesh` mean: `Laws` and, for 1, 2, 12, 3 and 4, `EarlyLaws`.
pub mod Laws
pub mod EarlyLaws
