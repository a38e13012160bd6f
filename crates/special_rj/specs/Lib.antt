-- Carlson's R_J.
pub mod Rj
