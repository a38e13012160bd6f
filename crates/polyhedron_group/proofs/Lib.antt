-- Laws of groups of faces. Another crate sees Places: which face stands in a lane.
pub mod Places
mod Describing
mod FillingDyads
