-- The magnetic anomaly of a uniformly magnetised sphere.
pub mod Sphere
