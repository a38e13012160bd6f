-- The magnetic anomaly of any uniformly magnetised body, and the total-field anomaly that it makes.
pub mod Limits
pub mod Body
pub mod TotalField
pub mod WorkedExamples
