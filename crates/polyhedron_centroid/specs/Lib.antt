-- The centroid and the radius of a polyhedron.
pub mod Centroid
