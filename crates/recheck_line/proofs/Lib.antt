-- Laws of the line.
pub mod Text
