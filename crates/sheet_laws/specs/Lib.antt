-- Demand 3, proved (`Demand3`), rows as the single-point calls answer them, document 01's reference facts, and the laws that they rest on.
pub mod WriterLaws
pub mod OrderAndMates
pub mod Reading
pub mod PrismVolume
pub mod AcceptedLaws
pub mod FieldFits
pub mod KeptLaws
pub mod Demand3
pub mod RowsAreCalls
pub mod ReferenceFacts
