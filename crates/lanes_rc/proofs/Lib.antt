-- Laws of R_C by lanes; `NumberIsValue` is for the crates above.
pub mod NumberIsValue
mod RoundsLast
pub mod OneLane
pub mod AllLanes
