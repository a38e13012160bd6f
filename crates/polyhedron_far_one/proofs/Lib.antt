-- What the points over a face add up to, for the proofs here.
pub mod Faces
