-- What 16, 1 and 2 say of bytes, for the crates above; the parts that readers are handed.
pub mod Parsed
pub mod Opening
mod Handed
