-- Laws for the reading of one line.
pub mod FirstField
pub mod Values
pub mod Points
pub mod Read
pub mod Three
pub mod ThreeFields
pub mod Whole
