-- The parts of a sheet before its rows and after them, written.
pub mod PartsPut
