-- R_C of several numbers side by side.
pub mod LaneRounds
