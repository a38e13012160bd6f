-- The fields of a closed polyhedron at a list of stations: `Profile`; what its answers say of the single call at each station: `Promises`, proved in `ProfileLaws`. `InputLaws`,
-- `StationLaws`, `FilledLaws`, `InOrder` and `Exactly` are steps towards it; `FilledLaws` and `WorkLaws` have the answer and the lent lists by the parts that the code tries.
pub mod Profile
pub mod Promises
pub mod InputLaws
pub mod StationLaws
pub mod FilledLaws
pub mod InOrder
pub mod Exactly
pub mod WorkLaws
pub mod ProfileLaws
