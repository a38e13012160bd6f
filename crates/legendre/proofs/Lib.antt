-- For the proofs here: the table's entries (Entries).
pub mod Entries
pub mod TableIsGaussLegendre
