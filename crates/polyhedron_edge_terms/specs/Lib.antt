-- What one face and one edge of a polyhedron add to the field.
pub mod Corners
pub mod SolidAngle
pub mod EdgeTerms
