-- Laws of loops over lanes, and of loops after loops, for the crates above.
pub mod Filling
pub mod Folds
