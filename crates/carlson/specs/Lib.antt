-- Carlson's R_C, and ln, atan and atan2 by it.
pub mod Rounds
pub mod RoundLaws
pub mod Constants
pub mod CarlsonLoop
pub mod Rc
pub mod Logarithm
pub mod LogarithmOfBits
pub mod Arctangent
