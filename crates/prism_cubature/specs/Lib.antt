-- The field of a rectangular prism by Gauss-Legendre cubature.
pub mod Cubature
pub mod Rules
