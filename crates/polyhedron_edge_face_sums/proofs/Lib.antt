-- Laws of the sums that are carried.
pub mod Carrying
