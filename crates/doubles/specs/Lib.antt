-- Doubles: operations, constants, magnitudes.
pub mod Rounded
pub mod Constants
pub mod ConstantsAreNearest
pub mod QuarterLaw
pub mod Magnitude
