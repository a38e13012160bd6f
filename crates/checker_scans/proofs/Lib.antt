-- What the scans read and compare; `Read` is for the crates above too.
pub mod Read
mod Chunks
mod Compare
