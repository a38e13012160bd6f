-- The lines of `write_obj`'s text, vertices and faces alike.
pub mod Lines
