-- The magnetic anomaly of a uniformly magnetised infinite cylinder.
pub mod Cylinder
