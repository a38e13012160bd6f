-- Laws of the edges that are held.
pub mod Storing
pub mod Adding
