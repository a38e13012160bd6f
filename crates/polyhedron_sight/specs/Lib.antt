-- What a station sees of eight faces side by side: Sight of lists, Seen of structs.
pub mod Sight
pub mod Seen
