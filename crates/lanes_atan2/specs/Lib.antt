-- atan2 of several numbers side by side.
pub mod AtanLanes
