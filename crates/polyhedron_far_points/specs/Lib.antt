-- The points of a tetrahedron, one after the other.
pub mod Tetrahedral
pub mod PointsOf
