-- Laws of fields side by side, for the proofs here.
pub mod Putting
pub mod Threes
