-- Neumaier's compensated summation of fields.
pub mod Neumaier
