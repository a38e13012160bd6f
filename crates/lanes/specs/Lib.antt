-- Several numbers side by side.
pub mod Lanes
