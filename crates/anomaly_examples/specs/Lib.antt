-- Worked figures, those of the Rust's documentation, the field of a cylinder and the magnetisation of a sphere, computed from the definitions. No code rests on them.
pub mod WorkedSphere
pub mod WorkedCylinder
pub mod WorkedEllipsoid
pub mod WorkedGauss
pub mod WorkedMagnetisation
