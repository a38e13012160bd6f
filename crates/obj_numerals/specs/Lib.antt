-- Decimal digits of a given count, and what is written at a cursor.
pub mod Digits
pub mod Put
