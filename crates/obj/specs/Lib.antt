-- Shape models as Wavefront OBJ text: lines and fields, decimal numbers, what is read, what is written.
pub mod Text
pub mod Decimal
pub mod Reader
pub mod Line
pub mod Whole
pub mod Writer
