-- Laws that the proofs of the functions share, here and in the crates above.
pub mod Work
pub mod Answers
mod Partners
mod Scatter
pub mod MatesPut
mod EdgeReturns
