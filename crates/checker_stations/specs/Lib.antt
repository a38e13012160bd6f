-- For the contracts of inner functions: FieldIn.
pub mod FieldIn
