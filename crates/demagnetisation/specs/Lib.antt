-- Demagnetising factors of an ellipsoid, the magnetisation that they allow, and the Königsberger ratio.
pub mod Ellipsoid
pub mod Magnetisation
