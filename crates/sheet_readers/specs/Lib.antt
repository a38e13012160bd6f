-- Bytes that the causes 16, 1 and 2 let through; what readers are handed beside the rows, and that a sheet has the length that they are told.
pub mod Opened
pub mod Parts
pub mod Length
