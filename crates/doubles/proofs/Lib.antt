-- Laws of doubles, for the crates above.
pub mod Signs
pub mod FiniteUnsigned
pub mod Value
pub mod Between
pub mod Exponent
pub mod Fields
pub mod Exactly
pub mod SignBit
pub mod Magnitude
pub mod EitherWay
pub mod Comparisons
