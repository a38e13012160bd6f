-- Laws that the proofs of the functions share.
pub mod Scans
pub mod CauseNumbers
mod Faces
mod Flips
mod Pairs
mod Counts
