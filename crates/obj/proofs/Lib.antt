-- Laws that the crates above share.
pub mod Pieces
