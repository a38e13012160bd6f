-- Lemmas that the functions' proofs cite; `RoundLoop` is for the crates above too.
pub mod RoundLoop
mod Quadrants
mod LnBits
mod LnCases
mod One
