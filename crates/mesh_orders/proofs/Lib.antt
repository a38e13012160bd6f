-- Laws that the proofs of the sort share.
pub mod Passes
