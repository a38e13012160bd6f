-- Laws of causes tried in order, for the crates above.
pub mod Causes
