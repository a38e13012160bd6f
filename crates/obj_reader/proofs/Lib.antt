-- Laws of the walks over a text's lines.
pub mod Lines
pub mod Surveying
pub mod Meeting
pub mod Naming
pub mod Storing
pub mod ReadCauses
pub mod Answer
