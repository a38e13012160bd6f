-- The value of a decimal number is the nearest double: `ValueLaws`, and `NearestLaws` for the quotient. `ExactLaws`: what is divided is not rounded. `RoundedFraction`, `NoTie` and `Digits` are
-- steps towards them.
pub mod ExactLaws
pub mod RoundedFraction
pub mod NoTie
pub mod NearestLaws
pub mod Digits
pub mod ValueLaws
