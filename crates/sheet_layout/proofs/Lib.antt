-- Laws of numbers in bytes, for the crates above.
pub mod Stores
pub mod Numbers
pub mod Bits
pub mod Lists
pub mod Files
pub mod Turns
