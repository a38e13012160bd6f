-- Laws of records that are stored, for the crates above.
pub mod Storing
