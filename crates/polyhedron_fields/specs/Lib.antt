-- The fields of a checked mesh at up to eight stations. Walked is no part of what they are: it says what the code knows of a block of stations, for the contracts of its inner functions.
pub mod BlockFields
pub mod Walked
