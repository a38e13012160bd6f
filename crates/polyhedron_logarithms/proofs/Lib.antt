-- Laws of the sides of eight faces, for the crates above.
pub mod Terms
