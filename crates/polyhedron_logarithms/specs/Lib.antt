-- The logarithms of the sides of eight faces: Sides of lists, Seen of a struct.
pub mod Sides
pub mod Seen
