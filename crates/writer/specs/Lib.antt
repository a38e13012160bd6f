-- `write_sheet`.
pub mod Written
pub mod Steps
