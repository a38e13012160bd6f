-- Laws of a tetrahedron's points, for the crates above.
pub mod Pointed
