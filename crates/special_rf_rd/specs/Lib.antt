-- Carlson's R_F and R_D, and what they share with R_J.
pub mod Constants
pub mod Duplication
pub mod Rf
pub mod Rd
