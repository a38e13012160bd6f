-- The edges that give a logarithm that is not finite: the definition (OnEdge), a law of their keys (KeyLaws), that they are different (DifferentEdges), and what the code keeps of them
-- (Block, Held).
pub mod OnEdge
pub mod KeyLaws
pub mod DifferentEdges
pub mod Block
pub mod Held
