-- Edge uses of a mesh, how often an edge occurs, the order list and the mates.
pub mod Edges
pub mod Order
pub mod Endpoint
pub mod Mates
pub mod EdgeLaws
pub mod OrderLaws
pub mod MateLaws
