-- Linear equations.
pub mod Gauss
