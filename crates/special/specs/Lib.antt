-- The public calls of Carlson's R_F, R_D and R_J.
pub mod Domain
