-- What the scans read, ask for and test.
pub mod Reverses
pub mod Paired
pub mod EdgesGiven
