-- What it is to be the nearest double.
pub mod Nearest
