-- Laws of whole doubles, of decimal digits and of what is written at a cursor, here and for the crates above.
pub mod Wholes
pub mod Numerals
pub mod Puts
