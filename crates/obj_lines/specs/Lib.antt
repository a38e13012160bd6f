-- What the code says of the fields of a line and of the numbers in them.
pub mod Parts
