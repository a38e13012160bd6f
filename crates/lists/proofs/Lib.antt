-- Laws of lists of numbers, for the crates above.
pub mod Numbers
pub mod Counts
pub mod Tallies
pub mod Sorting
pub mod Ranges
pub mod PartialSums
pub mod Pigeonhole
pub mod Firsts
pub mod Filling
pub mod Counting
