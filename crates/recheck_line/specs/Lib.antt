-- The line that `recheck` prints.
pub mod Digits
pub mod Line
