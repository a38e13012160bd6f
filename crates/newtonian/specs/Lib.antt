-- Vectors of three doubles, a mass point's field, and sums in the Rust's order.
pub mod Vectors
pub mod Point
pub mod Fold
pub mod Numbers
