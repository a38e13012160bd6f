-- Laws of the sums of far stations, for the crates above.
pub mod Stations
