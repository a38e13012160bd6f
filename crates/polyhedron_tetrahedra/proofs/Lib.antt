-- The mapped rule by its elements, for the proof here and the crates above.
pub mod Nodes
