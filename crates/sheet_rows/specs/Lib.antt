-- The row of a station.
pub mod Kinds
pub mod Row
pub mod BodyWithCenter
pub mod StationFields
pub mod RowRefusals
pub mod StationNumber
