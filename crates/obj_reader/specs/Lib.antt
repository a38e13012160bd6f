-- What the walks over a text find.
pub mod Passes
