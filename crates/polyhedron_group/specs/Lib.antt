-- Eight faces of a mesh. Held says what a group holds.
pub mod Group
pub mod Held
