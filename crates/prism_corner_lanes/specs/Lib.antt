-- The corners of a prism side by side.
pub mod CornerLanes
