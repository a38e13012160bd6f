-- The field of a closed polyhedron of triangles.
pub mod Polyhedron
pub mod PolyhedronLaws
pub mod StationNumber
