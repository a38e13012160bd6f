-- The rows of a sheet, written.
pub mod Rows
