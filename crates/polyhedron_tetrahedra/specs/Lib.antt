-- The far field of a polyhedron.
pub mod Mapped
pub mod Tetrahedra
