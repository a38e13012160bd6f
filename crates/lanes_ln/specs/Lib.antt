-- ln of several numbers side by side.
pub mod LnLanes
