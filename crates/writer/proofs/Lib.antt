-- Laws that the proofs of the functions share.
pub mod Refusals
pub mod Stages
